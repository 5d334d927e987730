-- What types of two units need for being compatible (ISO C11 6.2.7p1): the pairs of tags that have to match.
use Rattle.std.specs.Prelude.{Bool, ◌&&◌, List, ◌∷◌, Option, Some, None, if◌then◌else◌}
use Rattle.type_data.specs.declared.basics.Basic.TheVariants as basic
use Rattle.type_data.specs.declared.members.TagKind.TheVariants.{Struct, Enum}
use Rattle.type_data.specs.declared.qualifiers.Proto.{Proto}
use Rattle.type_data.specs.declared.qualifiers.Proto.TheVariants as proto
use Rattle.type_data.specs.Same.{same_basic, same_qual}
use Rattle.type_data.specs.Types.{Ty, Void_type, Basic_type, Enumerated_type, Tagged_type, Pointer_to, Array_of, Function_of, Bad_type, Parameters, No_more, Parameter_then}
use Rattle.type_rel.specs.Compatible.{agrees, all_stay}
use Rattle.unit_index.specs.declared.pairs.TagPair.{TagPair}
use Rattle.unit_index.specs.Closing.{put}
use Rattle.unit_index.specs.Pairs.{pair, same_pair}

-- the pairs; none where no pairs help
abbrev pub Needed : Type 0
Needed = Option (List TagPair)

abbrev pub provided : Bool → Needed → Needed
provided holds more = if holds then more else None

abbrev pub with_pair : TagPair → Needed → Needed
with_pair p None = None
with_pair p (Some ps) = Some (p ∷ ps)

-- 6.7.6.3p15, by what both types say of their parameters, as within a unit: whether those of the first and of the second one stay
-- by the default argument promotions, and what their parameters need
abbrev pub fitting : Proto → Proto → Bool → Bool → Needed → Needed → Needed
fitting proto.Old proto.Old left right agree more = more
fitting proto.Old proto.Fixed left right agree more = provided right more
fitting proto.Fixed proto.Old left right agree more = provided left more
fitting proto.Fixed proto.Fixed left right agree more = agree
fitting proto.Variadic proto.Variadic left right agree more = agree
fitting p q left right agree more = None

-- what two types need, in front of what is needed besides
abbrev mutual
  pub needs : Ty → Ty → Needed → Needed
  -- nothing more is shown of what has a fault
  needs Bad_type b more = more
  needs a Bad_type more = more
  needs Void_type Void_type more = more
  needs (Basic_type a) (Basic_type b) more = provided (same_basic a b) more
  -- 6.7.2.2p4: an enumerated type is compatible with int
  needs (Enumerated_type a) (Basic_type b) more = provided (same_basic b basic.Int) more
  needs (Basic_type a) (Enumerated_type b) more = provided (same_basic a basic.Int) more
  needs (Enumerated_type a) (Enumerated_type b) more = with_pair (pair Enum a b) more
  needs (Tagged_type a) (Tagged_type b) more = with_pair (pair Struct a b) more
  -- 6.7.6.1p2: identically qualified, and pointers to compatible types
  needs (Pointer_to a q) (Pointer_to b r) more = provided (same_qual q r) (needs a b more)
  -- 6.7.6.2p6
  needs (Array_of a q m) (Array_of b r n) more = provided (same_qual q r && agrees m n) (needs a b more)
  -- 6.7.6.3p15
  needs (Function_of a xs p) (Function_of b ys q) more = needs a b (fitting p q (all_stay xs) (all_stay ys) (params_need xs ys more) more)
  needs a b more = None

  -- as many, each with a compatible type, whatever its own qualifiers
  pub params_need : Parameters → Parameters → Needed → Needed
  params_need No_more No_more more = more
  params_need (Parameter_then a q xs) (Parameter_then b r ys) more = needs a b (params_need xs ys more)
  params_need xs ys more = None

-- the pairs that were needed before, and these besides, each once and in order
abbrev pub noted : List TagPair → Needed → Needed
noted seen needed = put same_pair seen needed
