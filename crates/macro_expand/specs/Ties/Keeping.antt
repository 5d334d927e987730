-- Tokens that are kept one after another, as long as there is room.
use Rattle.std.specs.Prelude.{ℕ, ◌-◌, nat_lt, List, [], ◌∷◌, ◌++◌, length, map, Option, Some, None, if◌then◌else◌}
use Rattle.tok_data.specs.declared.sources.TokId.{TokId}
use Rattle.tok_data.specs.declared.tokens.OutToken.{OutToken}
use Rattle.macro_expand.specs.declared.types.Marked.{Marked}
use Rattle.macro_expand.specs.declared.types.Outcome.{Outcome}
use Rattle.macro_expand.specs.declared.types.Within.{Within}
use Rattle.macro_expand.specs.declared.keeping.Kept.{Kept}
use Rattle.macro_expand.specs.declared.keeping.Held.{Held}

abbrev pub nothing_kept : Kept
nothing_kept = record { tokens = []; left_out = None }

abbrev pub first_of : Option TokId → TokId → Option TokId
first_of None site = Some site
first_of (Some first) site = Some first

unfoldable pub put : ℕ → OutToken → Kept → Kept
put room t k =
    if nat_lt (length k.tokens) room then record k { tokens = k.tokens ++ t ∷ [] }
    else record k { left_out = first_of k.left_out t.site }

abbrev pub keep : ℕ → List OutToken → Kept → Kept
keep room [] k = k
keep room (t ∷ ts) k = keep room ts (put room t k)

-- the tokens without their hide sets
abbrev pub bare : List Marked → List OutToken
bare ts = map (λ t. t.token) ts

-- what an expansion did, with what is kept of its tokens where some are kept already
abbrev pub held : ℕ → Kept → Outcome → Held
held room k o = record { progress = o.progress; kept = keep room (bare o.tokens) k }

-- where a line isn't known, nothing is told but its site
abbrev pub told_by : ℕ → Held → Option TokId → Within
told_by budget h None = record {
  expanded = record {
    tokens = h.kept.tokens;
    used = budget - h.progress.left;
    faults = h.progress.faults;
    spelled = h.progress.spelled;
    macros = h.progress.macros;
    asked = None;
  };
  left_out = h.kept.left_out;
}
told_by budget h (Some site) = record {
  expanded = record {
    tokens = [];
    used = budget - h.progress.left;
    faults = [];
    spelled = [];
    macros = [];
    asked = Some site;
  };
  left_out = None;
}

abbrev pub told : ℕ → Held → Within
told budget h = told_by budget h h.progress.asked
