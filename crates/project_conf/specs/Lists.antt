-- The lists that words of the command line have: folders parted by `:`, definitions parted by `;`.
use Rattle.std.specs.Prelude.{ℕ, ◌==◌, List, [], ◌∷◌, length, nat_lt, Option, Some, None, option_map, option_and_then, if◌then◌else◌}
use Rattle.std.specs.List.{slice_split}
use Rattle.c_tokens.specs.Languages.{is_identifier}
use Rattle.project_conf.specs.declared.options.Define.{Define}
use Rattle.project_conf.specs.declared.options.Define.TheVariants as define
use Rattle.project_conf.specs.Settings.{name_in, text_in}

-- own limit
abbrev pub most_bytes : ℕ
most_bytes = 65536

-- what each part says, None where one says nothing
abbrev pub all_said : {X : Type 0} → (List ℕ → Option X) → List (List ℕ) → Option (List X)
all_said said [] = Some []
all_said said (part ∷ parts) = option_and_then (λ x. option_map (λ xs. x ∷ xs) (all_said said parts)) (said part)

-- the parts of a list, between bytes of one kind
abbrev pub parts_of : ℕ → List ℕ → List (List ℕ)
parts_of byte list = slice_split (λ b. b == byte) list

abbrev pub short_enough : {X : Type 0} → List ℕ → Option X → Option X
short_enough list said = if nat_lt most_bytes (length list) then None else said

-- a part that isn't empty
abbrev pub folder_in : List ℕ → Option (List ℕ)
folder_in part = if length part == 0 then None else Some part

-- `NAME=TEXT`, or `NAME`, which has the text `1`; NAME is an identifier (ISO C11 6.4.2.1), so no part is empty
abbrev pub define_in : List ℕ → Option Define
define_in part = if is_identifier (name_in part) then Some (define.Set (name_in part) (text_in part)) else None

abbrev pub colon : ℕ
colon = 58

abbrev pub semicolon : ℕ
semicolon = 59

abbrev pub folders_listed : List ℕ → Option (List (List ℕ))
folders_listed list = short_enough list (all_said folder_in (parts_of colon list))

abbrev pub defines_listed : List ℕ → Option (List Define)
defines_listed list = short_enough list (all_said define_in (parts_of semicolon list))
