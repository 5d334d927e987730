-- Compatible types (ISO C11 6.2.7p1) of one unit.
use Rattle.std.specs.Prelude.{Bool, true, false, ◌&&◌, ◌==◌, None}
use Rattle.type_data.specs.declared.basics.Basic.{Basic}
use Rattle.type_data.specs.declared.basics.Basic.TheVariants as basic
use Rattle.type_data.specs.declared.qualifiers.Extent.{Extent}
use Rattle.type_data.specs.declared.qualifiers.Extent.TheVariants as extent
use Rattle.type_data.specs.declared.qualifiers.Proto.{Proto}
use Rattle.type_data.specs.declared.qualifiers.Proto.TheVariants as proto
use Rattle.type_data.specs.Same.{same_basic, same_tag, same_qual}
use Rattle.type_data.specs.Types.{Ty, Void_type, Basic_type, Enumerated_type, Tagged_type, Pointer_to, Array_of, Function_of, Bad_type, Parameters, No_more, Parameter_then}
use Rattle.type_rel.specs.Arithmetic.{promoted_basic}

-- 6.7.6.2p6: where both sizes are there and known they are equal
abbrev pub agrees : Extent → Extent → Bool
agrees (extent.Size m) (extent.Size n) = m == n
agrees m n = true

-- 6.5.2.2p6: what the default argument promotions make of a type
abbrev pub argument : Basic → Basic
argument basic.Float = basic.Double
argument b = promoted_basic b None

-- 6.7.6.3p15: the parameter's type is compatible with what the default argument promotions make of it
abbrev pub stays : Ty → Bool
stays (Basic_type b) = same_basic b (argument b)
stays t = true

abbrev pub all_stay : Parameters → Bool
all_stay No_more = true
all_stay (Parameter_then t q ps) = stays t && all_stay ps

-- 6.7.6.3p15, by what both types say of their parameters: two prototypes agree in the use of `...`, in number and in their
-- parameters; of one alone no parameter changes by the default argument promotions, and there is no `...`
abbrev pub fitting : Proto → Proto → Bool → Bool → Bool → Bool
fitting proto.Old proto.Old left right agree = true
fitting proto.Old proto.Fixed left right agree = right
fitting proto.Fixed proto.Old left right agree = left
fitting proto.Fixed proto.Fixed left right agree = agree
fitting proto.Variadic proto.Variadic left right agree = agree
fitting p q left right agree = false

abbrev mutual
  pub compatible : Ty → Ty → Bool
  -- nothing more is shown of what has a fault
  compatible Bad_type b = true
  compatible a Bad_type = true
  compatible Void_type Void_type = true
  compatible (Basic_type a) (Basic_type b) = same_basic a b
  -- 6.7.2.2p4: an enumerated type is compatible with int
  compatible (Enumerated_type a) (Basic_type b) = same_basic b basic.Int
  compatible (Basic_type a) (Enumerated_type b) = same_basic a basic.Int
  compatible (Enumerated_type a) (Enumerated_type b) = same_tag a b
  compatible (Tagged_type a) (Tagged_type b) = same_tag a b
  -- 6.7.6.1p2: identically qualified, and pointers to compatible types
  compatible (Pointer_to a q) (Pointer_to b r) = same_qual q r && compatible a b
  -- 6.7.6.2p6
  compatible (Array_of a q m) (Array_of b r n) = same_qual q r && agrees m n && compatible a b
  -- 6.7.6.3p15
  compatible (Function_of a ps p) (Function_of b qs q) = compatible a b && fitting p q (all_stay ps) (all_stay qs) (params_agree ps qs)
  compatible a b = false

  -- as many, each with a compatible type, whatever its own qualifiers
  pub params_agree : Parameters → Parameters → Bool
  params_agree No_more No_more = true
  params_agree (Parameter_then a q ps) (Parameter_then b r qs) = compatible a b && params_agree ps qs
  params_agree ps qs = false
