-- A part of a text in two steps: its open literals are shown, and then it is read.
use Rattle.std.specs.Prelude.{ℕ, Bool, List, [], ◌∷◌, if◌then◌else◌}
use Rattle.tok_data.specs.declared.tokens.OutToken.{OutToken}
use Rattle.asking.specs.Asking.{Gives, and_then}
use Rattle.include_units.specs.declared.inclusion.Lead.TheVariants.{On}
use Rattle.include_units.specs.Files.{FromFiles}
use Rattle.include_units.specs.Texts.{Text, Part, Run, Directive}
use Rattle.include_units.specs.Made.{Made}
use Rattle.include_units.specs.Literals.{open_where}
use Rattle.include_units.specs.Runs.{expanded_run, with_run}
use Rattle.include_units.specs.Conditionals.{Open, is_taken}
use Rattle.include_units.specs.Units.{Walked, walked, stands_taken, by_name}

abbrev pub shown_first : Part → List Open → Made → Made
shown_first (Run ts) os m = open_where (is_taken os) ts m
shown_first (Directive hash []) os m = m
shown_first (Directive hash (t ∷ ts)) os m = open_where (stands_taken t os) (t ∷ ts) m

abbrev pub run_behind : Text → List OutToken → Made → FromFiles Made
run_behind text ts m = and_then (expanded_run text ts m) (λ r. Gives (with_run r))

abbrev pub lines_behind : Text → List OutToken → List Open → Made → FromFiles Walked
lines_behind text ts os m =
    if is_taken os then and_then (run_behind text ts m) (λ n. Gives (walked On os n)) else Gives (walked On os m)

abbrev pub directive_behind : List (List ℕ) → Bool → Text → OutToken → List OutToken → List Open → Made → FromFiles Walked
directive_behind folders deep text hash [] os m = Gives (walked On os m)
directive_behind folders deep text hash (t ∷ ts) os m = by_name folders deep text hash t ts os m

abbrev pub part_behind : List (List ℕ) → Bool → Text → Part → List Open → Made → FromFiles Walked
part_behind folders deep text (Run ts) os m = lines_behind text ts os m
part_behind folders deep text (Directive hash ts) os m = directive_behind folders deep text hash ts os m
