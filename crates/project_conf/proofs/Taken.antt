-- Words that `clap` takes, and words that it refuses.
use Rattle.std.proofs.Common.{◌≡◌, ◌≢◌, true, false, inl, inr, List, [], ◌∷◌, refl, ap, subst, arith}
use Rattle.std.proofs.lemmas.Grind.{common_steps}
use Rattle.clap.specs.Words.{App, HasMatchesOf, HasKind, IsAmong, Kinds, Text, fault_of, found_of, is_simple, is_simple_and_free, kind_of, rows_of}
use Rattle.clap.specs.Walk.{is_empty}
use Rattle.clap.specs.declared.error.Error.{Error}
use Rattle.clap.specs.declared.error.kind.ErrorKind.{ErrorKind}
use Rattle.clap.specs.declared.error.kind.ErrorKind.TheVariants.{OutOfMemory}
use Rattle.clap.specs.declared.parser.matches.ArgMatches.{ArgMatches}
use Rattle.clap.proofs.OnLiterals.{clap_on_literals}
use Rattle.project_conf.specs.CommandLine.{command_line, are_taken, rows_in}

is_free : is_simple_and_free command_line ≡ true
unfolding command_line clap_on_literals
is_free = refl

is_plain : is_simple command_line ≡ true
unfolding command_line clap_on_literals
is_plain = refl

some_kinds : (k : ErrorKind) (kinds : Kinds) → IsAmong k kinds → is_empty kinds ≡ false
some_kinds k [] h = absurd h
some_kinds k (x ∷ xs) h = grind (arith, common_steps)

module _ (app : App) (words : List Text) (same : app ≡ command_line) where
  pub are_taken_by : (is_simple_and_free app ≡ true → fault_of app words ≡ []) → are_taken words ≡ true
  unfolding are_taken
  are_taken_by h = ap is_empty (subst (λ (a : App). is_simple_and_free a ≡ true → fault_of a words ≡ []) same h is_free)

  among_kinds : (e : Error) → kind_of e ≢ OutOfMemory → HasKind (fault_of command_line words) e → are_taken words ≡ false
  unfolding are_taken
  among_kinds e other h = elim h as (λ _. is_empty (fault_of command_line words) ≡ false) [ inl memory ↦ absurd (other memory) | inr k ↦ some_kinds (kind_of e) (fault_of command_line words) k ]

  pub are_refused_by : (e : Error) → (is_simple_and_free app ≡ true → HasKind (fault_of app words) e) → kind_of e ≢ OutOfMemory → are_taken words ≡ false
  are_refused_by e h other = among_kinds e other (subst (λ (a : App). is_simple_and_free a ≡ true → HasKind (fault_of a words) e) same h is_free)

  pub rows_read : (m : ArgMatches) → HasMatchesOf app words m → rows_of (found_of m) ≡ rows_in words
  unfolding rows_in
  rows_read m h = (subst (λ (a : App). HasMatchesOf a words m) same h is_plain).0
