-- Each clause is the lemma on its rows, by the laws of pieces that the function calls.
use Rattle.lawful_rules.proofs.WorkerRows.{idle_lawful, claimed_lawful, took_lawful, admitted_lawful, ran_lawful, fetched_lawful}
use Rattle.lawful_rules.proofs.CallerRows.{packet_lawful}
use Rattle.lawful_rules.proofs.StartRows.{start_lawful, bind_lawful}
use Rattle.lawful_rules.proofs.TickRows.{tick_lawful}
use Rattle.lawful_rules.proofs.rules_are_lawful.Goals as goal

pub returns-clause-idle : goal.returns-clause-idle
returns-clause-idle c k f rows p e r are g = idle_lawful k f rows p e r are

pub returns-clause-claimed : goal.returns-clause-claimed
returns-clause-claimed c k f rows long p seen e h g =
    claimed_lawful
    (record {
      none = c.fronts_grow_by_a_piece.ensures.none;
      more = c.fronts_grow_by_a_piece.ensures.more;
      all = c.fronts_grow_by_a_piece.ensures.all;
      full = c.pieces_before_the_last_are_full.ensures.full;
      fits = c.pieces_before_the_last_are_full.ensures.fits;
      bytes = c.pieces_before_the_last_are_full.ensures.bytes;
    })
    k f rows long p seen e h g

pub returns-clause-took : goal.returns-clause-took
returns-clause-took c k f rows p e h g =
    took_lawful
    (record {
      none = c.fronts_grow_by_a_piece.ensures.none;
      more = c.fronts_grow_by_a_piece.ensures.more;
      all = c.fronts_grow_by_a_piece.ensures.all;
      full = c.pieces_before_the_last_are_full.ensures.full;
      fits = c.pieces_before_the_last_are_full.ensures.fits;
      bytes = c.pieces_before_the_last_are_full.ensures.bytes;
    })
    k f rows p e h g

pub returns-clause-admitted : goal.returns-clause-admitted
returns-clause-admitted c k f rows buffer p arguments answer e reply h g = admitted_lawful k f rows buffer p arguments answer e reply h g

pub returns-clause-ran : goal.returns-clause-ran
returns-clause-ran c k f rows p answer e h g =
    ran_lawful
    (record {
      none = c.fronts_grow_by_a_piece.ensures.none;
      more = c.fronts_grow_by_a_piece.ensures.more;
      all = c.fronts_grow_by_a_piece.ensures.all;
      full = c.pieces_before_the_last_are_full.ensures.full;
      fits = c.pieces_before_the_last_are_full.ensures.fits;
      bytes = c.pieces_before_the_last_are_full.ensures.bytes;
    })
    k f rows p answer e h g

pub returns-clause-fetched : goal.returns-clause-fetched
returns-clause-fetched c k f rows p e h g =
    fetched_lawful
    (record {
      none = c.fronts_grow_by_a_piece.ensures.none;
      more = c.fronts_grow_by_a_piece.ensures.more;
      all = c.fronts_grow_by_a_piece.ensures.all;
      full = c.pieces_before_the_last_are_full.ensures.full;
      fits = c.pieces_before_the_last_are_full.ensures.fits;
      bytes = c.pieces_before_the_last_are_full.ensures.bytes;
    })
    k f rows p e h g

pub returns-clause-start : goal.returns-clause-start
returns-clause-start c k m process second l procedure arguments before h idle low early fits has =
    start_lawful
    (record {
      none = c.fronts_grow_by_a_piece.ensures.none;
      more = c.fronts_grow_by_a_piece.ensures.more;
      all = c.fronts_grow_by_a_piece.ensures.all;
      full = c.pieces_before_the_last_are_full.ensures.full;
      fits = c.pieces_before_the_last_are_full.ensures.fits;
      bytes = c.pieces_before_the_last_are_full.ensures.bytes;
    })
    k m process second l procedure arguments before h low early fits has

pub returns-clause-bind : goal.returns-clause-bind
returns-clause-bind c k m process second l bytes before h idle low early has short =
    bind_lawful
    (record {
      none = c.fronts_grow_by_a_piece.ensures.none;
      more = c.fronts_grow_by_a_piece.ensures.more;
      all = c.fronts_grow_by_a_piece.ensures.all;
      full = c.pieces_before_the_last_are_full.ensures.full;
      fits = c.pieces_before_the_last_are_full.ensures.fits;
      bytes = c.pieces_before_the_last_are_full.ensures.bytes;
    })
    k m process second l bytes before h low early has short

pub returns-clause-packet : goal.returns-clause-packet
returns-clause-packet c k m process l n p before g h answer there counted =
    packet_lawful
    (record {
      none = c.fronts_grow_by_a_piece.ensures.none;
      more = c.fronts_grow_by_a_piece.ensures.more;
      all = c.fronts_grow_by_a_piece.ensures.all;
      full = c.pieces_before_the_last_are_full.ensures.full;
      fits = c.pieces_before_the_last_are_full.ensures.fits;
      bytes = c.pieces_before_the_last_are_full.ensures.bytes;
    })
    k m process l n p before g h answer there counted

pub returns-clause-tick : goal.returns-clause-tick
returns-clause-tick c k m process l before g h marked =
    tick_lawful
    (record {
      none = c.fronts_grow_by_a_piece.ensures.none;
      more = c.fronts_grow_by_a_piece.ensures.more;
      all = c.fronts_grow_by_a_piece.ensures.all;
      full = c.pieces_before_the_last_are_full.ensures.full;
      fits = c.pieces_before_the_last_are_full.ensures.fits;
      bytes = c.pieces_before_the_last_are_full.ensures.bytes;
    })
    k m process l before g h marked
