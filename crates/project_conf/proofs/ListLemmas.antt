-- The lists of the command line, part by part.
use Rattle.std.proofs.Common.{◌≡◌, ℕ, ◌+◌, ◌<◌, ◌≤◌, Bool, true, false, ◌==◌, List, [], ◌∷◌, ◌++◌, length, nat_lt, sum_by, Option, Some, None, option_map, option_and_then, if◌then◌else◌, refl, sym, ap, ◌∙◌, subst, append_assoc, append-nil, arith, codes, ltb-false}
use Rattle.std.specs.Prelude.{IfSome}
use Rattle.std.specs.List.{onto_first, position_or_len, before_first, after_first, AllByRecursion}
use Rattle.std.proofs.lemmas.Bool.{cond_both}
use Rattle.std.proofs.lemmas.List.Elements.{All-from_get_or, All-from_recursion}
use Rattle.std.proofs.lemmas.List.Splits.{slice_split_none, slice_split_first}
use Rattle.std.proofs.lemmas.List.Sums.{fails_before_first, sum_by-cons}
use Rattle.c_tokens.specs.Languages.{is_identifier}
use Rattle.clap.specs.Words.{Row}
use Rattle.project_conf.specs.declared.options.Define.{Define}
use Rattle.project_conf.specs.declared.options.Define.TheVariants as define
use Rattle.project_conf.specs.declared.options.Options.{Options}
use Rattle.project_conf.specs.CommandLine.{given}
use Rattle.project_conf.specs.Defines.{AreUsable, size_of}
use Rattle.project_conf.specs.Lists.{most_bytes, all_said, parts_of, define_in, defines_listed}
use Rattle.project_conf.specs.Settings.{name_in, text_in}
use Rattle.project_conf.specs.Words.{by_rows, defines_given, folders_given, run_given}
use Rattle.project_conf.proofs.Usable.{IsNamed, split_size}

-- ---- parts

-- a list without the byte is one part
pub one_part : (byte : ℕ) (list : List ℕ) → position_or_len (λ b. b == byte) list ≡ length list → parts_of byte list ≡ list ∷ []
one_part byte list none =
    slice_split_none (λ b. b == byte) list (All-from_get_or (λ b. (b == byte) ≡ false) list 0 (λ i inside. fails_before_first (λ b. b == byte) list i 0 (omega arith)))

-- the first part ends at the first such byte
pub split_first : (byte : ℕ) (list part rest : List ℕ) → part ≡ before_first (λ b. b == byte) list → rest ≡ after_first (λ b. b == byte) list
    → position_or_len (λ b. b == byte) list < length list → parts_of byte list ≡ part ∷ parts_of byte rest
split_first byte list part rest front back inside = rw (front, back) (slice_split_first (λ b. b == byte) list 0 inside)

-- ---- what parts say, where `made` was said before them, and `all` by all of them

module _ {X : Type 0} (said : List ℕ → Option X) where
  pushed : (made : List X) (x : X) (o : Option (List X)) → option_map (λ xs. (made ++ x ∷ []) ++ xs) o ≡ option_map (λ xs. made ++ xs) (option_map (λ xs. x ∷ xs) o)
  pushed made x None = refl
  pushed made x (Some xs) = ap Some (append_assoc made (x ∷ []) xs)

  abbrev first_said : List X → Option X → List (List ℕ) → Option (List X)
  first_said made first behind = option_map (λ xs. made ++ xs) (option_and_then (λ x. option_map (λ xs. x ∷ xs) (all_said said behind)) first)

  pub said_turns : (made made' : List X) (parts : List (List ℕ)) (all : Option (List X)) (part : List ℕ) (behind : List (List ℕ)) (x : X)
      → option_map (λ xs. made ++ xs) (all_said said parts) ≡ all → parts ≡ part ∷ behind → Some x ≡ said part → made' ≡ made ++ x ∷ []
      → option_map (λ xs. made' ++ xs) (all_said said behind) ≡ all
  said_turns made made' parts all part behind x h first is more =
      ap (λ m. option_map (λ xs. m ++ xs) (all_said said behind)) more ∙ pushed made x (all_said said behind) ∙ ap (λ o. first_said made o behind) is
      ∙ ap (λ ps. option_map (λ xs. made ++ xs) (all_said said ps)) (sym first) ∙ h

  pub said_ends : (made made' : List X) (parts : List (List ℕ)) (all : Option (List X)) (part : List ℕ) (x : X)
      → option_map (λ xs. made ++ xs) (all_said said parts) ≡ all → parts ≡ part ∷ [] → Some x ≡ said part → made' ≡ made ++ x ∷ []
      → Some made' ≡ all
  said_ends made made' parts all part x h first is more = ap Some (sym (append-nil made')) ∙ said_turns made made' parts all part [] x h first is more

  pub said_fails : (made : List X) (parts : List (List ℕ)) (all : Option (List X)) (part : List ℕ) (behind : List (List ℕ))
      → option_map (λ xs. made ++ xs) (all_said said parts) ≡ all → parts ≡ part ∷ behind → None ≡ said part → None ≡ all
  said_fails made parts all part behind h first is =
      ap (λ o. first_said made o behind) is ∙ ap (λ ps. option_map (λ xs. made ++ xs) (all_said said ps)) (sym first) ∙ h

  pub said_begins : (o : Option (List X)) → option_map (λ xs. [] ++ xs) o ≡ o
  said_begins None = refl
  said_begins (Some xs) = refl

-- ---- the definitions of a list may begin a unit

abbrev weight_of : List ℕ → ℕ
weight_of part = 1 + length part

onto_weighs : (b n : ℕ) (ps : List (List ℕ)) → sum_by weight_of ps ≤ 1 + n → sum_by weight_of (onto_first b ps) ≤ 2 + n
onto_weighs b n [] h = omega (arith, sum_by-cons weight_of (b ∷ []) [])
onto_weighs b n (p ∷ ps) h = omega (arith, h, sum_by-cons weight_of p ps, sum_by-cons weight_of (b ∷ p) ps)

parts_weigh : (byte : ℕ) (list : List ℕ) → sum_by weight_of (parts_of byte list) ≤ 1 + length list
parts_weigh byte [] = omega (arith, sum_by-cons weight_of [] [])
parts_weigh byte (b ∷ list) =
    let h : sum_by weight_of (parts_of byte (b ∷ list)) ≤ 2 + length list =
    cond_both (b == byte) ([] ∷ parts_of byte list) (onto_first b (parts_of byte list)) (λ ps. sum_by weight_of ps ≤ 2 + length list)
    (λ here. omega (arith, parts_weigh byte list, sum_by-cons weight_of [] (parts_of byte list))) (λ other. onto_weighs b (length list) (parts_of byte list) (parts_weigh byte list)) in
    omega (arith, h)

abbrev AreNamed : List Define → ℕ → Type 0
AreNamed ds n = AllByRecursion IsNamed ds × (sum_by size_of ds ≤ n)

abbrev IsNamedIn : Define → ℕ → Type 0
IsNamedIn d n = IsNamed d × (size_of d ≤ n)

if_said : (b : Bool) (d : Define) (n : ℕ) → (b ≡ true → IsNamedIn d n) → IfSome (if b then Some d else None) (λ e. IsNamedIn e n)
if_said true d n h = h refl
if_said false d n h = tt

define_named : (part : List ℕ) → IfSome (define_in part) (λ d. IsNamedIn d (weight_of part))
define_named part =
    let n = position_or_len (λ b. b == 61) part in
    if_said (is_identifier (name_in part)) (define.Set (name_in part) (text_in part)) (weight_of part) (λ h. (h, split_size (nat_lt n (length part)) n part))

more_named : (first : Option Define) (more : Option (List Define)) (n m : ℕ) → IfSome first (λ d. IsNamedIn d n) → IfSome more (λ ds. AreNamed ds m)
    → IfSome (option_and_then (λ d. option_map (λ ds. d ∷ ds) more) first) (λ ds. AreNamed ds (n + m))
more_named None more n m h k = tt
more_named (Some d) None n m h k = tt
more_named (Some d) (Some ds) n m h k = ((h.0, k.0), omega (arith, h.1, k.1, sum_by-cons size_of d ds))

all_named : (parts : List (List ℕ)) → IfSome (all_said define_in parts) (λ ds. AreNamed ds (sum_by weight_of parts))
all_named [] = (tt, omega arith)
all_named (part ∷ parts) =
    subst (λ n. IfSome (all_said define_in (part ∷ parts)) (λ ds. AreNamed ds n)) (sym (sum_by-cons weight_of part parts))
    (more_named (define_in part) (all_said define_in parts) (weight_of part) (sum_by weight_of parts) (define_named part) (all_named parts))

usable_from : (ds : List Define) (n : ℕ) → AreNamed ds n → n ≤ 131072 → AreUsable 131072 ds
usable_from ds n h le = record { names = All-from_recursion IsNamed ds h.0; size = omega (arith, h.1) }

usable_if : (long : Bool) (list : List ℕ) (o : Option (List Define)) (n : ℕ) → (long ≡ false → n ≤ 131072) → IfSome o (λ ds. AreNamed ds n)
    → IfSome (if long then None else o) (λ ds. AreUsable 131072 ds)
usable_if true list o n le h = tt
usable_if false list None n le h = tt
usable_if false list (Some ds) n le h = usable_from ds n h (le refl)

listed_usable : (list : List ℕ) → IfSome (defines_listed list) (λ ds. AreUsable 131072 ds)
listed_usable list =
    usable_if (nat_lt most_bytes (length list)) list (all_said define_in (parts_of 59 list)) (sum_by weight_of (parts_of 59 list))
    (λ h. omega (arith, ltb-false most_bytes (length list) h, parts_weigh 59 list)) (all_named (parts_of 59 list))

given_usable : (list : Option (List ℕ)) → IfSome (defines_given list) (λ ds. AreUsable 131072 ds)
given_usable None = record { names = All-from_recursion IsNamed [] tt; size = omega arith }
given_usable (Some list) = listed_usable list

abbrev IsUsable : Options → Type 0
IsUsable options = AreUsable 131072 options.defines

by_parts : (f : Option (List (List ℕ))) (d : Option (List Define)) (r : Option (Option ℕ)) → IfSome d (λ ds. AreUsable 131072 ds)
    → IfSome (option_and_then (λ includes. option_and_then (λ defines. option_map (λ generate. record { includes = includes; defines = defines; generate = generate }) r) d) f) IsUsable
by_parts None d r h = tt
by_parts (Some f) None r h = tt
by_parts (Some f) (Some ds) None h = tt
by_parts (Some f) (Some ds) (Some r) h = h

pub options_usable : (rows : List Row) (options : Options) → by_rows rows ≡ Some options → AreUsable 131072 options.defines
options_usable rows options h =
    subst (λ (o : Option Options). IfSome o IsUsable) h
    (by_parts (folders_given (given (codes "include") rows)) (defines_given (given (codes "define") rows)) (run_given (given (codes "generate") rows)) (given_usable (given (codes "define") rows)))
