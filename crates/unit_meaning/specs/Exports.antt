-- What a unit shows to the others (ISO C11 6.2.2p2): the names that it declares with external linkage, in the order of first tokens.
use Rattle.std.specs.Prelude.{ℕ, Bool, true, false, ◌&&◌, nat_eq, List, [], ◌∷◌, Option, Some, None, is_some, option_map, if◌then◌else◌}
use Rattle.std.specs.Cmp.Lexicographic.{pointwise}
use Rattle.std.specs.List.{cons_option}
use Rattle.std.specs.Option.{option_or}
use Rattle.scope_tables.specs.declared.entities.Anchor.{Anchor}
use Rattle.scope_tables.specs.declared.entities.Anchor.TheVariants as anchor
use Rattle.scope_tables.specs.declared.entities.Entity.{Entity}
use Rattle.scope_tables.specs.declared.entities.Occ.{Occ}
use Rattle.scope_tables.specs.declared.meanings.HeadMeaning.{HeadMeaning}
use Rattle.scope_tables.specs.declared.meanings.How.{How}
use Rattle.scope_tables.specs.declared.meanings.How.TheVariants as how
use Rattle.scope_tables.specs.declared.meanings.Stated.{Stated}
use Rattle.scope_tables.specs.declared.units.Export.{Export}
use Rattle.tok_data.specs.declared.sources.TokId.{TokId}
use Rattle.type_data.specs.declared.names.ItemName.{ItemName}
use Rattle.type_data.specs.declared.qualifiers.Extent.{Extent}
use Rattle.type_data.specs.declared.qualifiers.Extent.TheVariants as extent
use Rattle.type_data.specs.Types.{Ty, Void_type, Basic_type, Enumerated_type, Tagged_type, Pointer_to, Array_of, Function_of, Bad_type}
use Rattle.type_rel.specs.Kinds.{is_bad}
use Rattle.unit_items.specs.Units.{Unit}
use Rattle.unit_meaning.specs.Lists.{first_some, given}
use Rattle.unit_meaning.specs.Sites.{Entry, fallen, token_in}

-- ---- the first token that denotes a name with external linkage, as its item tells it

abbrev pub external_of : Anchor → Option (List ℕ)
external_of (anchor.External name) = Some name
external_of (anchor.Local tok) = None
external_of (anchor.Made tok name) = None
external_of (anchor.Macro name) = None

abbrev pub is_it : List ℕ → Option (List ℕ) → Bool
is_it name None = false
is_it name (Some other) = pointwise nat_eq other name

abbrev pub if_it : List ℕ → Occ → Option TokId
if_it name o = given (is_it name (external_of o.anchor)) o.tok

abbrev pub first_token : List ℕ → List Occ → Option TokId
first_token name os = first_some (if_it name) os

-- ---- what the items state of a name

-- 6.9p5, 6.9.2p2
abbrev pub defines : How → Bool
defines how.Defines = true
defines how.Tentative = false
defines how.Refused = false
defines how.Declares = false

abbrev pub is_tentative : How → Bool
is_tentative how.Tentative = true
is_tentative how.Defines = false
is_tentative how.Refused = false
is_tentative how.Declares = false

abbrev pub is_refused : How → Bool
is_refused how.Refused = true
is_refused how.Defines = false
is_refused how.Tentative = false
is_refused how.Declares = false

abbrev pub if_stated : (How → Bool) → List ℕ → ItemName → Stated → Option TokId
if_stated asked name item s = given (asked s.how && pointwise nat_eq s.name name) (token_in item s.at)

abbrev pub first_in : (How → Bool) → List ℕ → ItemName → List Stated → Option TokId
first_in asked name item ss = first_some (if_stated asked name item) ss

abbrev pub first_stated : (How → Bool) → List ℕ → List HeadMeaning → Option TokId
first_stated asked name hs = first_some (λ h. first_in asked name h.item h.stated) hs

abbrev pub any : How → Bool
any h = true

-- 6.7.4p7: a head states it without `inline`, or with `extern`; else its definition isn't external
abbrev pub outside_in : List ℕ → HeadMeaning → Option TokId
outside_in name h = if h.inline then None else first_in any name h.item h.stated

abbrev pub outside : List ℕ → List HeadMeaning → Option TokId
outside name hs = first_some (outside_in name) hs

-- 6.9p5, 6.9.2p2: the first definition that isn't tentative, else the first tentative one
abbrev pub either : Option TokId → Option TokId → Option TokId
either definition tentative = option_or definition tentative

-- what is declared with a faulty type is defined where it would be with a right one
abbrev pub of_faulty : Ty → List ℕ → List HeadMeaning → Option TokId
of_faulty t name hs = if is_bad t then first_stated is_refused name hs else None

abbrev pub defining : Ty → List ℕ → List HeadMeaning → Option TokId
defining t name hs = option_or (either (first_stated defines name hs) (first_stated is_tentative name hs)) (of_faulty t name hs)

abbrev pub definition : Ty → List ℕ → List HeadMeaning → Option TokId
definition t name hs = if is_some (outside name hs) then defining t name hs else None

-- ---- its type

-- 6.9.2p2: an array of unknown size with a tentative definition has one element at the end of the unit
abbrev pub sized : Extent → Extent
sized extent.None = extent.Size 1
sized (extent.Size n) = extent.Size n
sized extent.Unknown = extent.Unknown

abbrev pub with_one : Ty → Ty
with_one (Array_of t q n) = Array_of t q (sized n)
with_one Void_type = Void_type
with_one (Basic_type b) = Basic_type b
with_one (Enumerated_type id) = Enumerated_type id
with_one (Tagged_type id) = Tagged_type id
with_one (Pointer_to t q) = Pointer_to t q
with_one (Function_of t ps p) = Function_of t ps p
with_one Bad_type = Bad_type

abbrev pub type_of : List ℕ → List HeadMeaning → Ty → Ty
type_of name hs t = if is_some (first_stated is_tentative name hs) then with_one t else t

-- ---- the names

-- the items of a unit, as far as these are asked for
abbrev pub made : Unit → List Entry → List HeadMeaning → List ℕ → Ty → TokId → Export
made u reached hs name t tok = record {
  name = name;
  ty = type_of name hs t;
  first = fallen u reached tok;
  defined = option_map (fallen u reached) (definition t name hs);
}

abbrev pub by_first : Unit → List Entry → List HeadMeaning → List ℕ → Ty → Option TokId → Option Export
by_first u reached hs name t None = None
by_first u reached hs name t (Some tok) = Some (made u reached hs name t tok)

abbrev pub by_name : Unit → List Entry → List Occ → List HeadMeaning → Ty → Option (List ℕ) → Option Export
by_name u reached os hs t None = None
by_name u reached os hs t (Some name) = by_first u reached hs name t (first_token name os)

abbrev pub exported : Unit → List Entry → List Occ → List HeadMeaning → Entity → Option Export
exported u reached os hs e = by_name u reached os hs e.ty (external_of e.anchor)

abbrev pub names : Unit → List Entry → List Occ → List HeadMeaning → List Entity → List Export
names u reached os hs [] = []
names u reached os hs (e ∷ es) = cons_option (exported u reached os hs e) (names u reached os hs es)
