-- What a pool asks of the plain law.
use Rattle.std.specs.Prelude.{ℕ, Bool, List, refl}
use Rattle.packet_pool.specs.declared.item.Item.{Item}
use Rattle.packet_pool.specs.declared.plain.PlainNotes.{PlainNotes}
use Rattle.packet_pool.specs.Laws.{Notes, Seats, Takes, Gives, Posts, Claims, Cells, Fresh}
use Rattle.packet_pool.specs.Plain.{first_notes, blank_notes, plain_both, plain_with_taken, plain_with_posted, plain_with_claimed, every_packet, always_loose, PlainHolds, plain_allows, taking, giving, posting, claiming}

abbrev pub right_of : PlainNotes → Bool
right_of notes = notes.right

abbrev pub taken_of : PlainNotes → List ℕ
taken_of notes = notes.taken

abbrev pub posted_of : PlainNotes → List Item
posted_of notes = notes.posted

abbrev pub claimed_of : PlainNotes → List Item
claimed_of notes = notes.claimed

pub plain_notes : Notes right_of taken_of posted_of claimed_of plain_with_taken plain_with_posted plain_with_claimed
plain_notes = record {
  take_right = λ n notes. refl;
  take_taken = λ n notes. refl;
  take_posted = λ n notes. refl;
  take_claimed = λ n notes. refl;
  post_right = λ x notes. refl;
  post_taken = λ x notes. refl;
  post_posted = λ x notes. refl;
  post_claimed = λ x notes. refl;
  claim_right = λ x notes. refl;
  claim_taken = λ x notes. refl;
  claim_posted = λ x notes. refl;
  claim_claimed = λ x notes. refl;
}

pub plain_takes : Takes plain_allows plain_with_taken
plain_takes v n y room = (taking, record { free = room; before = refl; after = refl; notes_after = refl })

pub plain_gives : Gives plain_allows always_loose
plain_gives v n y room loose = (giving, record { free = room; before = refl; after = refl; notes_after = refl })

pub plain_posts : Posts plain_allows right_of posted_of plain_with_posted every_packet always_loose
plain_posts v cell n y order ready small may = (posting n order y, record { ready = ready; small = small; may = may.right_to; next = may.next; before = refl; after = refl; packet = refl; notes_after = refl })

pub plain_claims : Claims plain_allows plain_with_claimed
plain_claims v cell n y order ready small = (claiming n order y, record { ready = ready; small = small; before = refl; after = refl; packet = refl; notes_after = refl })

pub plain_cells : Cells PlainHolds every_packet
plain_cells k ws bs vs law = law.cells

pub plain_fresh : Fresh PlainHolds
plain_fresh k ws bs vs id v cell m law at live only is = law.fresh id v cell m at live only is

pub plain_seats : Seats right_of taken_of posted_of claimed_of (λ k. first_notes) blank_notes plain_both
plain_seats = record {
  first_right = λ k. refl;
  first_taken = λ k. refl;
  first_posted = λ k. refl;
  first_claimed = λ k. refl;
  blank_right = refl;
  blank_taken = refl;
  blank_posted = refl;
  blank_claimed = refl;
  both_right = λ a b. refl;
  both_taken = λ a b. refl;
  both_posted = λ a b. refl;
  both_claimed = λ a b. refl;
}
