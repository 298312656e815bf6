-- Clients that are booted one after another.
use Rattle.std.proofs.Common.{◌≡◌, ℕ, ◌+◌, List, [], ◌∷◌, ◌++◌, map, sym, subst, refl}
use Rattle.std.specs.List.{range_with_len}
use Rattle.std.proofs.lemmas.List.FromFn.{map-range_with_len_more}
use Rattle.replay_model.specs.World.{Client, booted_client}
use Rattle.replay_world.specs.Stands.{IsClient, AreClients}
use Rattle.replay_world.proofs.Zips.{zip-push}

pub none_booted : (xs : List Client) → xs ≡ [] → AreClients xs []
none_booted xs e = let P : List Client → Type 0 = λ ys. AreClients ys [] in subst P (sym e) tt

pub one_booted : (n : ℕ) (xs ys : List Client) (x : Client) → AreClients xs (map (booted_client 1) (range_with_len 2 n)) → IsClient x (booted_client 1 (2 + n)) → ys ≡ xs ++ x ∷ []
    → AreClients ys (map (booted_client 1) (range_with_len 2 (n + 1)))
one_booted n xs ys x before item after =
    let P : List Client → Type 0 = λ zs. AreClients zs (map (booted_client 1) (range_with_len 2 (n + 1))) in
    let Q : List Client → Type 0 = λ zs. AreClients (xs ++ x ∷ []) zs in
    subst P (sym after)
    (subst Q (sym (map-range_with_len_more (booted_client 1) 2 n (2 + n) refl)) (zip-push IsClient xs (map (booted_client 1) (range_with_len 2 n)) x (booted_client 1 (2 + n)) before item))
