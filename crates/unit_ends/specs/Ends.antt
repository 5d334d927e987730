-- The faults of the end of a unit (ISO C11 6.2.2p7, 6.9p3, p5, 6.9.2). Each falls on a name that an item states at file scope.
use Rattle.std.specs.Prelude.{ℕ, Bool, true, false, not, ◌&&◌, ◌||◌, ◌++◌, nat_eq, List, [], ◌∷◌, Option, Some, None, if◌then◌else◌}
use Rattle.std.specs.List.{list_any}
use Rattle.std.specs.Cmp.Lexicographic.{pointwise}
use Rattle.type_data.specs.declared.judged.Fault.{Fault}
use Rattle.type_data.specs.declared.names.ItemName.{ItemName}
use Rattle.type_data.specs.Types.{Ty, Void_type, Basic_type, Enumerated_type, Tagged_type, Pointer_to, Array_of, Function_of, Bad_type}
use Rattle.scope_tables.specs.declared.entities.Entity.{Entity}
use Rattle.scope_tables.specs.declared.entities.Linkage.{Linkage}
use Rattle.scope_tables.specs.declared.entities.Linkage.TheVariants as linkage
use Rattle.scope_tables.specs.declared.meanings.BodyMeaning.{BodyMeaning}
use Rattle.scope_tables.specs.declared.meanings.HeadMeaning.{HeadMeaning}
use Rattle.scope_tables.specs.declared.meanings.How.{How}
use Rattle.scope_tables.specs.declared.meanings.How.TheVariants as how
use Rattle.scope_tables.specs.declared.meanings.Stated.{Stated}
use Rattle.unit_ends.specs.Last.{last, is_incomplete}

-- what is asked of a statement
abbrev pub any : How → Bool
any h = true

abbrev pub defines : How → Bool
defines how.Defines = true
defines how.Tentative = false
defines how.Refused = false
defines how.Declares = false

abbrev pub is_tentative : How → Bool
is_tentative how.Tentative = true
is_tentative how.Defines = false
is_tentative how.Refused = false
is_tentative how.Declares = false

-- 6.9.2p2: a tentative definition becomes one at the end; of a refused one nothing more is shown
abbrev pub gives : How → Bool
gives how.Defines = true
gives how.Tentative = true
gives how.Refused = true
gives how.Declares = false

abbrev pub is_it : List ℕ → Stated → Bool
is_it name s = pointwise nat_eq s.name name

abbrev pub states : (How → Bool) → List ℕ → List Stated → Bool
states asked name ss = list_any (λ s. asked s.how && is_it name s) ss

abbrev pub stated : (How → Bool) → List ℕ → List HeadMeaning → Bool
stated asked name hs = list_any (λ h. states asked name h.stated) hs

abbrev pub uses : List ℕ → List (List ℕ) → Bool
uses name used = list_any (λ n. pointwise nat_eq n name) used

abbrev pub heads_use : List ℕ → List HeadMeaning → Bool
heads_use name hs = list_any (λ h. uses name h.used) hs

abbrev pub bodies_use : List ℕ → List BodyMeaning → Bool
bodies_use name bs = list_any (λ b. uses name b.used) bs

abbrev pub is_used : List ℕ → List HeadMeaning → List BodyMeaning → Bool
is_used name hs bs = heads_use name hs || bodies_use name bs

abbrev pub is_internal : Linkage → Bool
is_internal linkage.Internal = true
is_internal linkage.External = false
is_internal linkage.None = false

abbrev pub is_external : Linkage → Bool
is_external linkage.External = true
is_external linkage.Internal = false
is_external linkage.None = false

-- what has a fault is no type
abbrev pub is_type : Ty → Bool
is_type Void_type = true
is_type (Basic_type b) = true
is_type (Enumerated_type id) = true
is_type (Tagged_type id) = true
is_type (Pointer_to t q) = true
is_type (Array_of t q n) = true
is_type (Function_of t ps p) = true
is_type Bad_type = false

abbrev pub declares_external : List ℕ → Entity → Bool
declares_external name e = is_external e.linkage && is_type e.ty && pointwise nat_eq e.name name

abbrev pub declare_external : List ℕ → List Entity → Bool
declare_external name es = list_any (declares_external name) es

abbrev pub bodies_declare : List ℕ → List BodyMeaning → Bool
bodies_declare name bs = list_any (λ b. declare_external name b.entities) bs

-- 6.2.2p7: it has internal linkage at file scope, and a body declares it with external linkage. Where its declaration with internal
-- linkage is in force, one with `extern` in a body takes that linkage (p4), so this body stands before it
abbrev pub has_both : List ℕ → List BodyMeaning → Entity → Bool
has_both name bs e = is_internal e.linkage && bodies_declare name bs

-- 6.9p3: it has internal linkage, is used and isn't defined
abbrev pub is_wanting : List ℕ → List HeadMeaning → List BodyMeaning → Entity → Bool
is_wanting name hs bs e = is_internal e.linkage && is_used name hs bs && not (stated gives name hs)

-- 6.9.2p2, p3: it is an object with tentative definitions alone, and its type is incomplete
abbrev pub is_left_open : List ℕ → List HeadMeaning → Entity → Bool
is_left_open name hs e = stated is_tentative name hs && not (stated defines name hs) && is_incomplete e.linkage hs e.ty

-- the fault of a name that nothing states before; one of a faulty type has shown its fault
unfoldable pub first_rule : List ℕ → List HeadMeaning → List BodyMeaning → Entity → Option ℕ
first_rule name hs bs e = if not (is_type e.ty) then None else if has_both name bs e then Some 430 else if is_wanting name hs bs e then Some 701 else if is_left_open name hs e then Some 703 else None

abbrev pub rule_at_first : List ℕ → List HeadMeaning → List BodyMeaning → Option Entity → Option ℕ
rule_at_first name hs bs None = None
rule_at_first name hs bs (Some e) = first_rule name hs bs e

-- the fault of a name in its place: what stands before is a list of items and a list of statements of its own item; 6.9p5: a
-- definition after another one
abbrev pub stated_before : (How → Bool) → List ℕ → List HeadMeaning → List Stated → Bool
stated_before asked name front before = stated asked name front || states asked name before

unfoldable pub rule : List HeadMeaning → List BodyMeaning → List HeadMeaning → List Stated → Stated → Option ℕ
rule hs bs front before s =
    if stated_before any s.name front before then
    (if defines s.how && stated_before defines s.name front before then Some 702 else None)
    else rule_at_first s.name hs bs (last s.name hs)

abbrev pub fault : ℕ → Stated → Fault
fault rule s = record { rule = rule; at = s.at; names = s.name ∷ []; types = [] }

abbrev pub fault_at : ItemName → Stated → Option ℕ → List (ItemName × Fault)
fault_at item s None = []
fault_at item s (Some rule) = (item, fault rule s) ∷ []

abbrev pub of_item : List HeadMeaning → List BodyMeaning → List HeadMeaning → ItemName → List Stated → List Stated → List (ItemName × Fault)
of_item hs bs front item before [] = []
of_item hs bs front item before (s ∷ more) = fault_at item s (rule hs bs front before s) ++ of_item hs bs front item (before ++ s ∷ []) more

abbrev pub of_items : List HeadMeaning → List BodyMeaning → List HeadMeaning → List HeadMeaning → List (ItemName × Fault)
of_items hs bs front [] = []
of_items hs bs front (h ∷ more) = of_item hs bs front h.item [] h.stated ++ of_items hs bs (front ++ h ∷ []) more

abbrev pub ends : List HeadMeaning → List BodyMeaning → List (ItemName × Fault)
ends hs bs = of_items hs bs [] hs
