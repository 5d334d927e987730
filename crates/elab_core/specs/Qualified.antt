-- A type with further qualifiers (ISO C11 6.7.3p9): those of an array are those of its elements, and a function type has none.
use Rattle.type_data.specs.declared.qualifiers.Qual.{Qual}
use Rattle.type_data.specs.Types.{Ty, Void_type, Basic_type, Enumerated_type, Tagged_type, Pointer_to, Array_of, Function_of, Bad_type}
use Rattle.type_rel.specs.Kinds.{unqualified}
use Rattle.expr_rules.specs.Kinds.{both_quals}

-- what is left for the type itself
abbrev pub own_quals : Ty → Qual → Qual
own_quals (Array_of t q n) r = unqualified
own_quals (Function_of t ps p) r = unqualified
own_quals Void_type r = r
own_quals (Basic_type b) r = r
own_quals (Enumerated_type id) r = r
own_quals (Tagged_type id) r = r
own_quals (Pointer_to t q) r = r
own_quals Bad_type r = r

-- the type
abbrev pub qualified : Ty → Qual → Ty
qualified (Array_of t q n) r = Array_of (qualified t r) (own_quals t (both_quals q r)) n
qualified Void_type r = Void_type
qualified (Basic_type b) r = Basic_type b
qualified (Enumerated_type id) r = Enumerated_type id
qualified (Tagged_type id) r = Tagged_type id
qualified (Pointer_to t q) r = Pointer_to t q
qualified (Function_of t ps p) r = Function_of t ps p
qualified Bad_type r = Bad_type
