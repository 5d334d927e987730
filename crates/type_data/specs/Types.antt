-- Types (ISO C11 6.2.5) as data.
use Rattle.std.specs.Prelude.{ℕ, ◌+◌}
use Rattle.type_data.specs.declared.basics.Basic.{Basic}
use Rattle.type_data.specs.declared.names.TagId.{TagId}
use Rattle.type_data.specs.declared.qualifiers.Extent.{Extent}
use Rattle.type_data.specs.declared.qualifiers.Proto.{Proto}
use Rattle.type_data.specs.declared.qualifiers.Qual.{Qual}

mutual
  pub data Ty : Type 0 where
    Void_type : Ty
    Basic_type : Basic → Ty
    -- an enumerated type
    Enumerated_type : TagId → Ty
    -- a structure or union type
    Tagged_type : TagId → Ty
    Pointer_to : Ty → Qual → Ty
    Array_of : Ty → Qual → Extent → Ty
    Function_of : Ty → Parameters → Proto → Ty
    -- that of what has a fault
    Bad_type : Ty

  -- the types of parameters, with their own qualifiers
  pub data Parameters : Type 0 where
    No_more : Parameters
    Parameter_then : Ty → Qual → Parameters → Parameters

-- the number of types in it
abbrev mutual
  pub size : Ty → ℕ
  size Void_type = 1
  size (Basic_type b) = 1
  size (Enumerated_type id) = 1
  size (Tagged_type id) = 1
  size (Pointer_to t q) = size t + 1
  size (Array_of t q n) = size t + 1
  size (Function_of t ps p) = size t + params_size ps + 1
  size Bad_type = 1

  pub params_size : Parameters → ℕ
  params_size No_more = 1
  params_size (Parameter_then t q ps) = size t + params_size ps + 1
