-- What is seen of two units, name by name.
use Rattle.std.proofs.Common.{◌≡◌, ℕ, Bool, true, false, ◌&&◌, List, [], ◌∷◌, map, is_some, bytes_eq, refl, sym, true≢false}
use Rattle.std.proofs.lemmas.Slice.Eq.{bytes_eq-Decides}
use Rattle.std.specs.Bool.{beq}
use Rattle.std.specs.Cmp.{booleans_Decides}
use Rattle.std.specs.Cmp.Lexicographic.{pointwise}
use Rattle.scope_tables.specs.declared.units.Export.{Export}
use Rattle.scope_tables.specs.declared.units.Exports.{Exports}
use Rattle.type_data.specs.Same.{same_type}
use Rattle.type_data.specs.SameLaws.{type_decides}
use Rattle.unit_index.specs.Crossing.{same_seen, seen, sight}

both : (a b : Bool) → (a && b) ≡ true → (a ≡ true) × (b ≡ true)
both true b e = (refl, e)
both false b e = absurd (true≢false (sym e))

pub one_seen : (a b : Export) → same_seen a b ≡ true → seen a ≡ seen b
one_seen a b e =
    let parts = both (bytes_eq a.name b.name) (same_type a.ty b.ty && beq (is_some a.defined) (is_some b.defined)) e in
    let more = both (same_type a.ty b.ty) (beq (is_some a.defined) (is_some b.defined)) parts.1 in
    let name : a.name ≡ b.name = (bytes_eq-Decides a.name b.name).0 parts.0 in
    let ty : a.ty ≡ b.ty = (type_decides a.ty b.ty).0 more.0 in
    let defined : is_some a.defined ≡ is_some b.defined = (booleans_Decides (is_some a.defined) (is_some b.defined)).0 more.1 in
    λ i. record { name = name i; ty = ty i; is_defined = defined i }

all_seen : (xs ys : List Export) → pointwise same_seen xs ys ≡ true → map seen xs ≡ map seen ys
all_seen [] [] e = refl
all_seen [] (y ∷ ys) e = absurd (true≢false (sym e))
all_seen (x ∷ xs) [] e = absurd (true≢false (sym e))
all_seen (x ∷ xs) (y ∷ ys) e =
    let parts = both (same_seen x y) (pointwise same_seen xs ys) e in
    λ i. one_seen x y parts.0 i ∷ all_seen xs ys parts.1 i

pub same_sights : (path : List ℕ) (a b : Exports) → pointwise same_seen a.names b.names ≡ true → a.tags ≡ b.tags → sight (record { path = path; exports = a }) ≡ sight (record { path = path; exports = b })
same_sights path a b names tags = λ i. record { path = path; tags = tags i; names = all_seen a.names b.names names i }
