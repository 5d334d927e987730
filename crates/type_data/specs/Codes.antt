-- A type as a list of what it is made of, each part in front of its own parts, from which it is read back. By these codes
-- a proof tells types apart.
use Rattle.std.specs.Prelude.{◌≡◌, List, [], ◌∷◌}
use Rattle.std.specs.Coded.{Coded, code_by}
use Rattle.std.proofs.Common.{ap, ◌∙◌}
use Rattle.std.specs.Prelude.{refl}
use Rattle.type_data.specs.declared.basics.Basic.{Basic}
use Rattle.type_data.specs.declared.names.TagId.{TagId}
use Rattle.type_data.specs.declared.qualifiers.Extent.{Extent}
use Rattle.type_data.specs.declared.qualifiers.Proto.{Proto}
use Rattle.type_data.specs.declared.qualifiers.Qual.{Qual}
use Rattle.type_data.specs.Types.{Ty, Void_type, Basic_type, Enumerated_type, Tagged_type, Pointer_to, Array_of, Function_of, Bad_type, Parameters, No_more, Parameter_then}

pub data Piece : Type 0 where
  Void_piece : Piece
  Basic_piece : Basic → Piece
  Enumerated_piece : TagId → Piece
  Tagged_piece : TagId → Piece
  Pointer_piece : Qual → Piece
  Array_piece : Qual → Extent → Piece
  Function_piece : Proto → Piece
  Bad_piece : Piece
  End_piece : Piece
  Parameter_piece : Qual → Piece

-- the pieces of a type in front of others
abbrev mutual
  pub pieces : Ty → List Piece → List Piece
  pieces Void_type rest = Void_piece ∷ rest
  pieces (Basic_type b) rest = Basic_piece b ∷ rest
  pieces (Enumerated_type id) rest = Enumerated_piece id ∷ rest
  pieces (Tagged_type id) rest = Tagged_piece id ∷ rest
  pieces (Pointer_to t q) rest = Pointer_piece q ∷ pieces t rest
  pieces (Array_of t q n) rest = Array_piece q n ∷ pieces t rest
  pieces (Function_of t ps p) rest = Function_piece p ∷ pieces t (params_pieces ps rest)
  pieces Bad_type rest = Bad_piece ∷ rest

  pub params_pieces : Parameters → List Piece → List Piece
  params_pieces No_more rest = End_piece ∷ rest
  params_pieces (Parameter_then t q ps) rest = Parameter_piece q ∷ pieces t (params_pieces ps rest)

-- what was read from the end on: types and parameter lists, the last one first
pub record Stack : Type 0 where
  pub types : List Ty
  pub lists : List Parameters

abbrev pub push : Ty → Stack → Stack
push t s = record { types = t ∷ s.types; lists = s.lists }

abbrev pub push_list : Parameters → Stack → Stack
push_list ps s = record { types = s.types; lists = ps ∷ s.lists }

abbrev pub first : List Ty → Ty
first [] = Bad_type
first (t ∷ ts) = t

abbrev pub first_list : List Parameters → Parameters
first_list [] = No_more
first_list (ps ∷ more) = ps

abbrev pub others : {A : Type 0} → List A → List A
others [] = []
others (a ∷ more) = more

abbrev pub put : Piece → Stack → Stack
put Void_piece s = push Void_type s
put (Basic_piece b) s = push (Basic_type b) s
put (Enumerated_piece id) s = push (Enumerated_type id) s
put (Tagged_piece id) s = push (Tagged_type id) s
put (Pointer_piece q) s = record { types = Pointer_to (first s.types) q ∷ others s.types; lists = s.lists }
put (Array_piece q n) s = record { types = Array_of (first s.types) q n ∷ others s.types; lists = s.lists }
put (Function_piece p) s = record { types = Function_of (first s.types) (first_list s.lists) p ∷ others s.types; lists = others s.lists }
put Bad_piece s = push Bad_type s
put End_piece s = push_list No_more s
put (Parameter_piece q) s = record { types = others s.types; lists = Parameter_then (first s.types) q (first_list s.lists) ∷ others s.lists }

abbrev pub read : List Piece → Stack
read [] = record { types = []; lists = [] }
read (p ∷ ps) = put p (read ps)

abbrev mutual
  pub reads_back : (t : Ty) (rest : List Piece) → read (pieces t rest) ≡ push t (read rest)
  reads_back Void_type rest = refl
  reads_back (Basic_type b) rest = refl
  reads_back (Enumerated_type id) rest = refl
  reads_back (Tagged_type id) rest = refl
  reads_back (Pointer_to t q) rest = ap (put (Pointer_piece q)) (reads_back t rest)
  reads_back (Array_of t q n) rest = ap (put (Array_piece q n)) (reads_back t rest)
  reads_back (Function_of t ps p) rest =
      ap (put (Function_piece p)) (reads_back t (params_pieces ps rest) ∙ ap (push t) (reads_list_back ps rest))
  reads_back Bad_type rest = refl

  pub reads_list_back : (ps : Parameters) (rest : List Piece) → read (params_pieces ps rest) ≡ push_list ps (read rest)
  reads_list_back No_more rest = refl
  reads_list_back (Parameter_then t q ps) rest =
      ap (put (Parameter_piece q)) (reads_back t (params_pieces ps rest) ∙ ap (push t) (reads_list_back ps rest))

abbrev pub type_code : Coded (List Piece) → Coded Ty
type_code c = code_by (List Piece) c (λ t. pieces t []) (λ ps. first (read ps).types) (λ t. ap (λ (s : Stack). first s.types) (reads_back t []))

abbrev pub params_code : Coded (List Piece) → Coded Parameters
params_code c = code_by (List Piece) c (λ ps. params_pieces ps []) (λ ps. first_list (read ps).lists) (λ ps. ap (λ (s : Stack). first_list s.lists) (reads_list_back ps []))
