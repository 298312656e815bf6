use Rattle.std.proofs.Common.{◌≡◌, ℕ, List, ◌++◌, ap, ◌∙◌, append_assoc}
use Rattle.std.specs.Prelude.{codes}
use Rattle.std.specs.Fmt.{decimal}
use Rattle.std.proofs.lemmas.Result.{on_ok_weaker}
use Rattle.replay_model.specs.Summary.{Summary, count_line, newline, summary_text}
use Rattle.commands.specs.contracts.summary.Summary.{the_view}
use Rattle.commands.proofs.summary.put_summary.Goals as goal

regroup : (a i b r e : List ℕ) → a ++ (i ++ (b ++ (r ++ e))) ≡ a ++ i ++ b ++ r ++ e
regroup a i b r e = simp append_assoc

-- one line more
more : (o a b c t : List ℕ) → b ≡ o ++ a → c ≡ b ++ t → c ≡ o ++ (a ++ t)
more o a b c t e f = f ∙ (ap (λ (x : List ℕ). x ++ t) e ∙ append_assoc o a t)

text_made : (seed calls : ℕ) (s : Summary) (o a b c d e f g h i j : List ℕ)
    → a ≡ o ++ (codes "storm " ++ (decimal seed ++ (codes " " ++ (decimal calls ++ newline))))
    → b ≡ a ++ count_line (codes "started") s.started
    → c ≡ b ++ count_line (codes "runs") s.runs
    → d ≡ c ++ count_line (codes "returned") s.returned
    → e ≡ d ++ count_line (codes "signalled") s.signalled
    → f ≡ e ++ count_line (codes "failed") s.failed
    → g ≡ f ++ count_line (codes "refused") s.refused
    → h ≡ g ++ count_line (codes "lost") s.lost
    → i ≡ h ++ count_line (codes "open") s.still_open
    → j ≡ i ++ count_line (codes "packets") s.packets
    → j ≡ o ++ summary_text seed calls s
unfolding summary_text
text_made seed calls s o a b c d e f g h i j first started runs returned signalled failed refused lost still_open packets =
    let head = first ∙ ap (λ (x : List ℕ). o ++ x) (regroup (codes "storm ") (decimal seed) (codes " ") (decimal calls) newline) in
    more o _ i j _ (more o _ h i _ (more o _ g h _ (more o _ f g _ (more o _ e f _ (more o _ d e _ (more o _ c d _ (more o _ b c _ (more o _ a b _ head started) runs) returned) signalled) failed) refused) lost) still_open) packets

pub returns : goal.returns
returns c =
    rw (← c.summary.view_is)
    (on_ok_weaker c.put_count-9.result
    (λ packets. text_made c.args.options.now.seed c.args.options.now.calls (the_view c.summary.inside) c.args.out.now.items
    c.writeln.new.self.items c.put_count.new.out.items c.put_count-2.new.out.items c.put_count-3.new.out.items c.put_count-4.new.out.items
    c.put_count-5.new.out.items c.put_count-6.new.out.items c.put_count-7.new.out.items c.put_count-8.new.out.items c.put_count-9.new.out.items
    c.in_ok-writeln.ensures c.in_ok-put_count.ensures c.in_ok-put_count-2.ensures c.in_ok-put_count-3.ensures c.in_ok-put_count-4.ensures
    c.in_ok-put_count-5.ensures c.in_ok-put_count-6.ensures c.in_ok-put_count-7.ensures c.in_ok-put_count-8.ensures packets)
    c.put_count-9.ensures)
