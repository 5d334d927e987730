-- Where a name leads from a folder.
use Rattle.std.proofs.Common.{map, ◌≡◌, ℕ, ◌-◌, Bool, true, false, cond, not, ◌||◌, ◌==◌, List, [], ◌∷◌, ◌++◌, length, take, All, sym, refl, ap, ◌∙◌, subst, Some, None}
use Rattle.std.proofs.lemmas.List.{take-map, length-map}
use Rattle.std.specs.Borrow.{Bor}
use Rattle.std.specs.Prelude.{IfSome}
use Rattle.std.proofs.lemmas.Bool.{cond_both}
use Rattle.std.proofs.lemmas.List.Elements.{All-nil, All-head, All-tail, All-push, All-take}
use Rattle.uri_paths.specs.Parts.{parts, is_empty, is_here, is_up}
use Rattle.uri_paths.specs.Named.{IsComponent}
use Rattle.uri_paths.specs.Paths.{walk, above}
use Rattle.uri_paths.proofs.Split.{IsWhole, parts_whole}

is_named : (e h u : Bool) → (e || h) ≡ false → u ≡ false → not (e || (h || u)) ≡ true
is_named false false false stays up = refl
is_named false false true stays up = sym up
is_named false true u stays up = sym stays
is_named true h u stays up = sym stays

-- components and parts without slashes lead to components
pub walked : (ps folder : List (List ℕ)) → All IsComponent folder → All IsWhole ps → IfSome (walk folder ps) (All IsComponent)
walked [] folder each whole = each
walked (p ∷ ps) folder each whole =
    let rest = All-tail IsWhole p ps whole in
    cond_both (is_empty p || is_here p) (walk folder ps) (cond (is_up p) (cond (length folder == 0) None (walk (above folder) ps)) (walk (folder ++ p ∷ []) ps)) (λ o. IfSome o (All IsComponent))
    (λ _. walked ps folder each rest)
    (λ stays. cond_both (is_up p) (cond (length folder == 0) None (walk (above folder) ps)) (walk (folder ++ p ∷ []) ps) (λ o. IfSome o (All IsComponent))
    (λ _. cond_both (length folder == 0) None (walk (above folder) ps) (λ o. IfSome o (All IsComponent)) (λ _. tt) (λ _. walked ps (above folder) (All-take IsComponent (length folder - 1) folder each) rest))
    (λ up. walked ps (folder ++ p ∷ []) (All-push IsComponent folder p each (record { named = is_named (is_empty p) (is_here p) (is_up p) stays up; whole = All-head IsWhole p ps whole })) rest))

-- so do the parts of a name from where it begins
pub walked_to : (folder start found : List (List ℕ)) (name : List ℕ) (absolute : Bool) → All IsComponent folder → start ≡ cond absolute [] folder → Some found ≡ walk start (parts name) → All IsComponent found
walked_to folder start found name absolute each begins to =
    let from = subst (All IsComponent) (sym begins) (cond_both absolute [] folder (All IsComponent) (λ _. All-nil IsComponent) (λ _. each)) in
    subst (λ o. IfSome o (All IsComponent)) (sym to) (walked (parts name) start from (parts_whole name))

-- the texts that a list of references lends
abbrev pub texts : List (Bor (List ℕ)) → List (List ℕ)
texts names = map (λ name. name.now) names

-- the list after its last is taken off
pub popped : (old new : List (Bor (List ℕ))) (n : ℕ) → n ≡ length old → new ≡ take (n - 1) old → texts new ≡ above (texts old)
popped old new n long rest =
    ap texts (rest ∙ ap (λ n. take (n - 1) old) long) ∙ sym (take-map (λ (name : Bor (List ℕ)). name.now) (length old - 1) old) ∙ ap (λ n. take (n - 1) (texts old)) (sym (length-map old (λ (name : Bor (List ℕ)). name.now)))
