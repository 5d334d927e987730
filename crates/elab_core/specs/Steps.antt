-- What a declarator derives from the type of its specifiers (ISO C11 6.7.6), one step after another, from the base outward.
use Rattle.std.specs.Prelude.{ℕ, ℤ, pos, negsuc, Bool, true, false, ◌&&◌, ◌||◌, not, ◌==◌, List, [], ◌∷◌, codes, nat_lt, ◌^◌, Option, Some, None, if◌then◌else◌}
use Rattle.std.specs.Map.{lookup}
use Rattle.asking.specs.Asking.{Asking, Gives, and_then}
use Rattle.type_data.specs.declared.judged.Constancy.{Constancy}
use Rattle.type_data.specs.declared.judged.Constancy.TheVariants as constancy
use Rattle.type_data.specs.declared.judged.Judged.{Judged}
use Rattle.type_data.specs.declared.members.TagInfo.{TagInfo}
use Rattle.type_data.specs.declared.members.TagKind.{TagKind}
use Rattle.type_data.specs.declared.members.TagKind.TheVariants as tag_kind
use Rattle.type_data.specs.declared.qualifiers.Extent.{Extent}
use Rattle.type_data.specs.declared.qualifiers.Extent.TheVariants as extent
use Rattle.type_data.specs.declared.qualifiers.Proto.{Proto}
use Rattle.type_data.specs.declared.qualifiers.Qual.{Qual}
use Rattle.type_data.specs.declared.values.Value.{Value}
use Rattle.type_data.specs.declared.values.Value.TheVariants.{Known, Unknown, Faulty}
use Rattle.type_data.specs.Same.{same_tag}
use Rattle.type_data.specs.Types as types
use Rattle.type_data.specs.Types.{Ty, Void_type, Basic_type, Enumerated_type, Tagged_type, Pointer_to, Array_of, Function_of, Bad_type}
use Rattle.type_rel.specs.Completeness.{is_complete}
use Rattle.type_rel.specs.Conversion.{converted}
use Rattle.type_rel.specs.Kinds.{Tagging, is_bad, unqualified}
use Rattle.expr_rules.specs.Kinds.{is_array, is_integer}
use Rattle.elab_state.specs.declared.made.Made.{Made}
use Rattle.elab_state.specs.Doings.{Doing, fault, follow, gives, left_out, with_fault}
use Rattle.elab_state.specs.Looks.{At, Deep, look}
use Rattle.elab_state.specs.Tokens.{spelling}
use Rattle.elab_state.specs.Wants.{wants}
use Rattle.elab_state.specs.Words.{word_of}
use Rattle.elab_core.specs.declared.shapes.Gathered.{Gathered}
use Rattle.elab_core.specs.declared.shapes.Step.{Step}
use Rattle.elab_core.specs.declared.shapes.Step.TheVariants as step
use Rattle.elab_core.specs.declared.shapes.Typed.{Typed}
use Rattle.elab_core.specs.Flexible.{is_flexible}
use Rattle.elab_state.specs.Contexts.{Context}
use Rattle.elab_core.specs.Specifiers.{is_function, may_restrict, no_type, nothing, type_fault, typed, with_word}

-- ---- qualifiers behind a `*` or in brackets

abbrev pub with_qualifiers : Context → List ℕ → Gathered × Made → Gathered × Made
with_qualifiers c [] r = r
with_qualifiers c (n ∷ ns) r = with_qualifiers c ns (with_word (word_of (spelling c.tokens n)) n r.0 r.1)

abbrev pub qualifiers : Context → List ℕ → Made → Gathered × Made
qualifiers c ns m = with_qualifiers c ns (nothing, m)

abbrev pub is_some_of : List ℕ → Bool
is_some_of [] = false
is_some_of (n ∷ ns) = true

-- ---- the steps

abbrev pub pointer_step : Gathered → Step
pointer_step g = if g.faulty then step.Bad else step.Pointer g.qual g.restrict_at

-- `at` is the `[`; `marked` says that qualifiers or `static` stand behind it; the extent is none where the size has a fault
abbrev pub sized_step : ℕ → Qual → Bool → Option Extent → Step
sized_step at q marked (Some n) = step.Array at q marked n
sized_step at q marked None = step.Bad

abbrev pub array_step : ℕ → Gathered → Bool → Option Extent → Step
array_step at g marked n = if g.faulty then step.Bad else sized_step at g.qual marked n

-- ---- the size of an array (6.7.6.2p1): of integer type, and a constant above 0

unfoldable pub variable : List ℕ
variable = codes "variable length array"

abbrev pub variable_fault : ℕ → Made → Made
variable_fault at m = left_out variable at m

abbrev pub bad_size : ℕ → Made → Option Extent × Made
bad_size at m = (None, with_fault (fault 419 at [] []) m)

abbrev pub extent_of : ℕ → Extent
extent_of n = if nat_lt n (2 ^ 64) then extent.Size n else extent.Unknown

abbrev pub of_number : ℕ → ℤ → Made → Option Extent × Made
of_number at (pos n) m = if n == 0 then bad_size at m else (Some (extent_of n), m)
of_number at (negsuc n) m = bad_size at m

abbrev pub of_value : ℕ → ℕ → Value → Made → Option Extent × Made
of_value at begins (Known z) m = of_number at z m
of_value at begins Unknown m = (Some extent.Unknown, m)
of_value at begins (Faulty rule) m = (None, with_fault (fault 531 begins [] []) m)

abbrev pub no_constant : ℕ → Made → Option Extent × Made
no_constant begins m = (None, variable_fault begins m)

abbrev pub of_constancy : ℕ → ℕ → Constancy → Made → Option Extent × Made
of_constancy at begins (constancy.Int v) m = of_value at begins v m
of_constancy at begins constancy.No m = no_constant begins m
of_constancy at begins constancy.Arith m = no_constant begins m
of_constancy at begins constancy.Addr m = no_constant begins m
of_constancy at begins constancy.Null m = no_constant begins m

abbrev pub sized_by : ℕ → ℕ → Judged → Made → Option Extent × Made
sized_by at begins j m = if is_integer j.ty then of_constancy at begins j.constant m else bad_size at m

-- `at` is the `[`, and `begins` the first token of the size
abbrev pub sized : ℕ → ℕ → Judged → Made → Option Extent × Made
sized at begins j m = if is_bad j.ty then (None, m) else sized_by at begins (converted j) m

-- ---- one step from a type; `at` is the name that is declared, or the first token where there is none

abbrev pub pointer_type : Typed → Qual → Typed
pointer_type t q = typed (Pointer_to t.ty t.qual) q

-- 6.7.3p2
abbrev pub pointed : Option ℕ → Qual → Typed → Made → Typed × Made
pointed (Some n) q t m = if is_function t.ty then (no_type, type_fault 415 n (Pointer_to t.ty t.qual) m) else (pointer_type t q, m)
pointed None q t m = (pointer_type t q, m)

-- 6.7.6.2p1: elements of a complete object type; 6.7.2.1p3: of no structure with a flexible array member
abbrev pub may_be_element : Tagging → Ty → Bool
may_be_element tags t = is_complete tags t && not (is_flexible tags t)

abbrev pub element_type : ℕ → Extent → Typed → Made → Typed × Made
element_type at n t m =
    if may_be_element m.tags t.ty then (typed (Array_of t.ty t.qual n) unqualified, m)
    else (no_type, type_fault 418 at t.ty m)

abbrev pub is_union_kind : TagKind → Bool
is_union_kind tag_kind.Struct = false
is_union_kind tag_kind.Union = true
is_union_kind tag_kind.Enum = false

-- whether it is a union is known then, and what it holds is asked for
abbrev pub is_union_info : Option TagInfo → Bool
is_union_info None = false
is_union_info (Some info) = is_union_kind info.kind

abbrev pub is_union : Tagging → Ty → Bool
is_union tags (Tagged_type id) = is_union_info (lookup (same_tag id) tags)
is_union tags Void_type = false
is_union tags (Basic_type b) = false
is_union tags (Enumerated_type id) = false
is_union tags (Pointer_to t q) = false
is_union tags (Array_of t q n) = false
is_union tags (Function_of t ps p) = false
is_union tags Bad_type = false

abbrev pub look_inside : Context → Ty → Made → Asking wants Made
look_inside c t m = if is_union m.tags t then look c.item (Deep t) m else Gives m

abbrev pub look_at_element : Context → Ty → Made → Asking wants Made
look_at_element c t m = and_then (look c.item (At t) m) (λ known. look_inside c t known)

abbrev pub arrayed : Context → ℕ → Extent → Typed → Made → Doing Typed
arrayed c at n t m = and_then (look_at_element c t.ty m) (λ now. Gives (element_type at n t now))

-- 6.7.6.3p1: neither a function nor an array is returned
abbrev pub may_be_returned : Ty → Bool
may_be_returned t = not (is_function t || is_array t)

abbrev pub returning : ℕ → types.Parameters → Proto → Typed → Made → Typed × Made
returning at ps p t m =
    if may_be_returned t.ty then (typed (Function_of t.ty ps p) unqualified, m)
    else (no_type, type_fault 421 at t.ty m)

-- from a type without a fault
abbrev pub sound_step : Context → ℕ → Step → Typed → Made → Doing Typed
sound_step c at step.Bad t m = gives no_type m
sound_step c at (step.Pointer q restrict) t m = Gives (pointed restrict q t m)
sound_step c at (step.Array opening q marked n) t m = arrayed c at n t m
sound_step c at (step.Function ps p) t m = Gives (returning at ps p t m)

-- of what has a fault nothing more is shown
abbrev pub unmarked_step : Context → ℕ → Step → Typed → Made → Doing Typed
unmarked_step c at s t m = if is_bad t.ty then gives no_type m else sound_step c at s t m

-- 6.7.6.2p1: qualifiers and `static` stand in the outermost brackets of a parameter alone; else the `[`
abbrev pub misplaced : Step → Bool → Option ℕ
misplaced (step.Array opening q marked n) outermost = if marked && not outermost then Some opening else None
misplaced step.Bad outermost = None
misplaced (step.Pointer q restrict) outermost = None
misplaced (step.Function ps p) outermost = None

-- whatever the type of its specifiers is
abbrev pub unless_misplaced : Context → ℕ → Option ℕ → Step → Typed → Made → Doing Typed
unless_misplaced c at (Some opening) s t m = gives no_type (with_fault (fault 420 opening [] []) m)
unless_misplaced c at None s t m = unmarked_step c at s t m

abbrev pub one_step : Context → ℕ → Bool → Step → Typed → Made → Doing Typed
one_step c at outermost s t m = unless_misplaced c at (misplaced s outermost) s t m

abbrev pub is_last : List Step → Bool
is_last [] = true
is_last (s ∷ ss) = false

-- all of them, in the order in which they are applied
abbrev pub derived : Context → ℕ → Bool → List Step → Typed → Made → Doing Typed
derived c at parameter [] t m = gives t m
derived c at parameter (s ∷ ss) t m = follow (one_step c at (parameter && is_last ss) s t m) (λ u. derived c at parameter ss u)

-- ---- steps that are put in front of others, the last one first

abbrev pub moved : List Step → List Step → List Step
moved [] ss = ss
moved (x ∷ xs) ss = moved xs (x ∷ ss)
