-- Which types are the same: two with the same parts. What the parts are compared by is the derived `==` of their types.
use Rattle.std.specs.Prelude.{Bool, true, false, ◌&&◌}
use Rattle.type_data.specs.declared.basics.Basic.{Basic}
use Rattle.type_data.specs.declared.names.TagId.{TagId}
use Rattle.type_data.specs.declared.qualifiers.Extent.{Extent}
use Rattle.type_data.specs.declared.qualifiers.Proto.{Proto}
use Rattle.type_data.specs.declared.qualifiers.Qual.{Qual}
use Rattle.type_data.specs.contracts.basics.BasicPartialEq.TheImpl as basics
use Rattle.type_data.specs.contracts.names.TagIdPartialEq.TheImpl as tags
use Rattle.type_data.specs.contracts.qualifiers.ExtentPartialEq.TheImpl as extents
use Rattle.type_data.specs.contracts.qualifiers.ProtoPartialEq.TheImpl as protos
use Rattle.type_data.specs.contracts.qualifiers.QualPartialEq.TheImpl as quals
use Rattle.type_data.specs.Types.{Ty, Void_type, Basic_type, Enumerated_type, Tagged_type, Pointer_to, Array_of, Function_of, Bad_type, Parameters, No_more, Parameter_then}

abbrev pub same_basic : Basic → Basic → Bool
same_basic a b = basics.eq-value.it a b

abbrev pub same_tag : TagId → TagId → Bool
same_tag a b = tags.eq-value.it a b

abbrev pub same_extent : Extent → Extent → Bool
same_extent a b = extents.eq-value.it a b

abbrev pub same_proto : Proto → Proto → Bool
same_proto a b = protos.eq-value.it a b

abbrev pub same_qual : Qual → Qual → Bool
same_qual a b = quals.eq-value.it a b

abbrev mutual
  pub same_type : Ty → Ty → Bool
  same_type Void_type Void_type = true
  same_type (Basic_type a) (Basic_type b) = same_basic a b
  same_type (Enumerated_type a) (Enumerated_type b) = same_tag a b
  same_type (Tagged_type a) (Tagged_type b) = same_tag a b
  same_type (Pointer_to a q) (Pointer_to b r) = same_qual q r && same_type a b
  same_type (Array_of a q m) (Array_of b r n) = same_qual q r && same_extent m n && same_type a b
  same_type (Function_of a ps p) (Function_of b qs q) = same_proto p q && same_type a b && same_params ps qs
  same_type Bad_type Bad_type = true
  same_type a b = false

  pub same_params : Parameters → Parameters → Bool
  same_params No_more No_more = true
  same_params (Parameter_then a q ps) (Parameter_then b r qs) = same_qual q r && same_type a b && same_params ps qs
  same_params ps qs = false
