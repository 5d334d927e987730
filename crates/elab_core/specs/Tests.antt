-- What a row of the operators tests of tags (ISO C11 6.5), in the order in which its condition is written: completeness and size of types,
-- members, and what objects hold by value (6.3.2.1p1: a const member, at any depth). What has a faulty part tests nothing.
use Rattle.std.specs.Prelude.{Bool, true, false, List, [], ◌∷◌, Option, Some, None, if◌then◌else◌}
use Rattle.asking.specs.Asking.{Asking, Gives, and_then}
use Rattle.c_literals.specs.declared.ops.Op.{Op}
use Rattle.c_literals.specs.declared.ops.Op.TheVariants as op
use Rattle.type_data.specs.declared.judged.Judged.{Judged}
use Rattle.type_data.specs.declared.names.ItemName.{ItemName}
use Rattle.type_data.specs.declared.names.TagId.{TagId}
use Rattle.type_data.specs.Types.{Ty, Void_type, Basic_type, Enumerated_type, Tagged_type, Pointer_to, Array_of, Function_of, Bad_type}
use Rattle.expr_rules.specs.declared.parts.Association.{Association}
use Rattle.expr_rules.specs.declared.parts.Association.TheVariants as association
use Rattle.expr_rules.specs.declared.parts.Form.{Form}
use Rattle.expr_rules.specs.declared.parts.Form.TheVariants as form
use Rattle.expr_rules.specs.Judgements.{has_bad}
use Rattle.elab_state.specs.declared.made.Made.{Made}
use Rattle.elab_state.specs.Looks.{Anonymous, At, Deep, look}
use Rattle.elab_state.specs.Wants.{wants}

-- one test after another
abbrev pub then_look : Asking wants Made → (Made → Asking wants Made) → Asking wants Made
then_look first rest = and_then first (λ now. rest now)

-- what an operand points to; an array becomes a pointer to its elements (6.3.2.1p3)
abbrev pub pointee : ItemName → Ty → Made → Asking wants Made
pointee item (Pointer_to t q) m = look item (At t) m
pointee item (Array_of t q n) m = look item (At t) m
pointee item Void_type m = Gives m
pointee item (Basic_type b) m = Gives m
pointee item (Enumerated_type id) m = Gives m
pointee item (Tagged_type id) m = Gives m
pointee item (Function_of t ps p) m = Gives m
pointee item Bad_type m = Gives m

abbrev pub pointees : ItemName → List Judged → Made → Asking wants Made
pointees item [] m = Gives m
pointees item (j ∷ js) m = then_look (pointee item j.ty m) (λ now. pointees item js now)

-- 6.5.2.2p1: what the function returns
abbrev pub returned : ItemName → Ty → Made → Asking wants Made
returned item (Function_of t ps p) m = look item (At t) m
returned item Void_type m = Gives m
returned item (Basic_type b) m = Gives m
returned item (Enumerated_type id) m = Gives m
returned item (Tagged_type id) m = Gives m
returned item (Pointer_to t q) m = Gives m
returned item (Array_of t q n) m = Gives m
returned item Bad_type m = Gives m

abbrev pub called : ItemName → Ty → Made → Asking wants Made
called item (Function_of t ps p) m = look item (At t) m
called item (Pointer_to t q) m = returned item t m
called item (Array_of t q n) m = returned item t m
called item Void_type m = Gives m
called item (Basic_type b) m = Gives m
called item (Enumerated_type id) m = Gives m
called item (Tagged_type id) m = Gives m
called item Bad_type m = Gives m

-- 6.5.2.3: members, those of anonymous structures and unions among them
abbrev pub tagged : ItemName → Ty → TagId → Made → Asking wants Made
tagged item t id m = then_look (look item (At t) m) (λ now. look item (Anonymous id) now)

abbrev pub members : ItemName → Ty → Made → Asking wants Made
members item (Tagged_type id) m = tagged item (Tagged_type id) id m
members item Void_type m = Gives m
members item (Basic_type b) m = Gives m
members item (Enumerated_type id) m = Gives m
members item (Pointer_to t q) m = Gives m
members item (Array_of t q n) m = Gives m
members item (Function_of t ps p) m = Gives m
members item Bad_type m = Gives m

abbrev pub pointed_members : ItemName → Ty → Made → Asking wants Made
pointed_members item (Pointer_to t q) m = members item t m
pointed_members item (Array_of t q n) m = members item t m
pointed_members item Void_type m = Gives m
pointed_members item (Basic_type b) m = Gives m
pointed_members item (Enumerated_type id) m = Gives m
pointed_members item (Tagged_type id) m = Gives m
pointed_members item (Function_of t ps p) m = Gives m
pointed_members item Bad_type m = Gives m

-- 6.3.2.1p1: whether it may be written
abbrev pub written : ItemName → Ty → Made → Asking wants Made
written item t m = then_look (look item (At t) m) (λ now. look item (Deep t) now)

abbrev pub is_additive : Op → Bool
is_additive op.Add = true
is_additive op.Sub = true
is_additive o = false

abbrev pub stepped : ItemName → Ty → Made → Asking wants Made
stepped item t m = then_look (pointee item t m) (λ now. written item t now)

abbrev pub pointee_if : Op → ItemName → Ty → Made → Asking wants Made
pointee_if o item t m = if is_additive o then pointee item t m else Gives m

abbrev pub added_to : Op → ItemName → Ty → Made → Asking wants Made
added_to o item t m = then_look (written item t m) (λ now. pointee_if o item t now)

abbrev pub added : Op → ItemName → List Judged → Made → Asking wants Made
added o item parts m = if is_additive o then pointees item parts m else Gives m

abbrev pub of_first : (Ty → Made → Asking wants Made) → List Judged → Made → Asking wants Made
of_first on [] m = Gives m
of_first on (j ∷ js) m = on j.ty m

abbrev pub size_of : ItemName → Option Ty → List Judged → Made → Asking wants Made
size_of item (Some t) parts m = look item (At t) m
size_of item None parts m = of_first (λ t now. look item (At t) now) parts m

-- 6.5.1.1p2
abbrev pub choice : ItemName → Association → Made → Asking wants Made
choice item (association.Typed t q) m = look item (At t) m
choice item association.Default m = Gives m

abbrev pub stated : ItemName → List Association → Made → Asking wants Made
stated item [] m = Gives m
stated item (a ∷ more) m = then_look (choice item a m) (λ now. stated item more now)

-- by what it states, or by all of its parts
abbrev pub by_all : ItemName → Form → List Judged → Made → Asking wants Made
by_all item (form.Generic choices) parts m = stated item choices m
by_all item form.Index parts m = pointees item parts m
by_all item (form.Compound t q s) parts m = look item (At t) m
by_all item (form.SizeOf t) parts m = size_of item t parts m
by_all item (form.AlignOf t) parts m = look item (At t) m
by_all item (form.OffsetOf t ds) parts m = look item (Deep t) m
by_all item (form.Binary o) parts m = added o item parts m
by_all item f parts m = Gives m

-- by its first part
abbrev pub by_first : ItemName → Form → Ty → Made → Asking wants Made
by_first item form.Call t m = called item t m
by_first item (form.Dot name) t m = members item t m
by_first item (form.Arrow name) t m = pointed_members item t m
by_first item form.PreInc t m = stepped item t m
by_first item form.PreDec t m = stepped item t m
by_first item form.PostInc t m = stepped item t m
by_first item form.PostDec t m = stepped item t m
by_first item form.Assign t m = written item t m
by_first item (form.AssignOp o) t m = added_to o item t m
by_first item f t m = Gives m

abbrev pub front : ItemName → Form → List Judged → Made → Asking wants Made
front item f [] m = Gives m
front item f (j ∷ js) m = by_first item f j.ty m

abbrev pub tested : ItemName → Form → List Judged → Made → Asking wants Made
tested item f parts m = then_look (by_all item f parts m) (λ now. front item f parts now)

abbrev pub tests : ItemName → Form → List Judged → Made → Asking wants Made
tests item f parts m = if has_bad f parts then Gives m else tested item f parts m
