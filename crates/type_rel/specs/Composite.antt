-- The composite type of two compatible types (ISO C11 6.2.7p3).
use Rattle.type_data.specs.declared.qualifiers.Extent.{Extent}
use Rattle.type_data.specs.declared.qualifiers.Extent.TheVariants as extent
use Rattle.type_data.specs.declared.qualifiers.Proto.{Proto}
use Rattle.type_data.specs.declared.qualifiers.Proto.TheVariants as proto
use Rattle.type_data.specs.Types.{Ty, Pointer_to, Array_of, Function_of, Bad_type, Parameters, Parameter_then}

-- an array of known size before one of a size that isn't told, and that before one of no size
abbrev pub sized : Extent → Extent → Extent
sized (extent.Size m) n = extent.Size m
sized m (extent.Size n) = extent.Size n
sized extent.Unknown n = extent.Unknown
sized extent.None n = n

-- where one alone has a prototype the parameters are those of that one
abbrev pub listed : Proto → Proto → Parameters → Parameters → Parameters → Parameters
listed proto.Old proto.Old ps qs both = ps
listed proto.Old q ps qs both = qs
listed p proto.Old ps qs both = ps
listed p q ps qs both = both

abbrev pub prototype : Proto → Proto → Proto
prototype proto.Old q = q
prototype p q = p

-- of an enumerated type and int it is the first one, and a type with a fault stays one
abbrev mutual
  pub composite : Ty → Ty → Ty
  composite (Pointer_to a q) (Pointer_to b r) = Pointer_to (composite a b) q
  composite (Array_of a q m) (Array_of b r n) = Array_of (composite a b) q (sized m n)
  composite (Function_of a ps p) (Function_of b qs q) = Function_of (composite a b) (listed p q ps qs (params_composite ps qs)) (prototype p q)
  composite a Bad_type = Bad_type
  composite a b = a

  -- each parameter has the own qualifiers of the first one's
  pub params_composite : Parameters → Parameters → Parameters
  params_composite (Parameter_then a q ps) (Parameter_then b r qs) = Parameter_then (composite a b) q (params_composite ps qs)
  params_composite ps qs = ps
