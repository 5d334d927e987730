-- What a type and a list of parameters are seen as.
use Rattle.type_data.specs.declared.types.Node.{Node}
use Rattle.type_data.specs.declared.types.Node.TheVariants as node
use Rattle.type_data.specs.declared.types.ParamList.{ParamList}
use Rattle.type_data.specs.declared.types.ParamList.TheVariants as list
use Rattle.type_data.specs.Types.{Ty, Void_type, Basic_type, Enumerated_type, Tagged_type, Pointer_to, Array_of, Function_of, Bad_type, Parameters, No_more, Parameter_then}

abbrev pub type_of : Node → Ty
type_of node.Void = Void_type
type_of (node.Basic b) = Basic_type b
type_of (node.Enumerated id) = Enumerated_type id
type_of (node.Tagged id) = Tagged_type id
type_of (node.Pointer t q) = Pointer_to t.value q
type_of (node.Array t q n) = Array_of t.value q n
type_of (node.Function t ps p) = Function_of t.value ps p
type_of node.Bad = Bad_type

abbrev pub params_of : ParamList → Parameters
params_of list.Empty = No_more
params_of (list.First t q ps) = Parameter_then t.value q ps.value
