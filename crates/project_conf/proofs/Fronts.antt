-- What `strip_prefix` leaves, by bytes.
use Rattle.std.proofs.Common.{◌≡◌, ℕ, true, false, List, length, drop, nat_eq, Option, Some, None, option_map, if◌then◌else◌, Bor, ap, sym, subst, ◌∙◌}
use Rattle.std.specs.Prelude.{MatchOption}
use Rattle.std.specs.List.{starts_with}
use Rattle.std.specs.Str.{IsCharBoundary}
use Rattle.std.specs.Str.Pattern.{FindsTextPrefix, StripsPrefix}
use Rattle.std.proofs.lemmas.Str.Pattern.{starts_text}

pub stripped : (n s : List ℕ) (r : Option (Bor (List ℕ))) → MatchOption r (FindsTextPrefix n s None) (λ x. StripsPrefix (FindsTextPrefix n) s x.now)
    → option_map (λ t. t.now) r ≡ (if starts_with nat_eq s n then Some (drop (length n) s) else None)
stripped n s None h = ap (λ b. if b then Some (drop (length n) s) else None) (starts_text false n s h)
stripped n s (Some x) h =
    let front = starts_text true n s (h.0, h.1, subst (IsCharBoundary s) (sym h.1.0) h.1.2) in
    ap Some (h.2 ∙ ap (λ k. drop k s) h.1.0) ∙ ap (λ b. if b then Some (drop (length n) s) else None) front
