-- Conditional inclusion (ISO C11 6.10.1): conditionals that are open, the innermost first.
use Rattle.std.specs.Prelude.{ℕ, ◌-◌, ◌&&◌, not, Bool, true, false, List, [], ◌∷◌, ◌++◌, Option, Some, None, if◌then◌else◌}
use Rattle.tok_data.specs.declared.sources.TokId.{TokId}
use Rattle.tok_data.specs.declared.tokens.OutToken.{OutToken}
use Rattle.tok_data.specs.declared.macros.MacroRole.TheVariants.{Tests}
use Rattle.macro_expand.specs.declared.types.Expanded.{Expanded}
use Rattle.pp_cond.specs.declared.types.Truth.{Truth}
use Rattle.pp_cond.specs.declared.types.Truth.TheVariants.{Yes, Bad, Asks}
use Rattle.pp_cond.specs.declared.types.Cond.{Cond}
use Rattle.macro_expand.specs.Expansion.{Definitions}
use Rattle.pp_cond.specs.Conditions.{expansion, truth, macros}
use Rattle.pp_cond.specs.Defined.{is_ident, is_defined}
use Rattle.asking.specs.Asking.{Gives, and_then}
use Rattle.include_units.specs.Files.{FromFiles}
use Rattle.include_units.specs.Texts.{Text}
use Rattle.include_units.specs.Made.{Made, definitions, with_fault, with_occurrence}
use Rattle.include_units.specs.Runs.{lines_in}
pub use Rattle.include_units.specs.declared.conditionals.Open.{Open}

-- the group that is read is taken
abbrev pub is_taken : List Open → Bool
is_taken [] = true
is_taken (o ∷ os) = o.taken

abbrev pub outer_taken : List Open → Bool
outer_taken [] = true
outer_taken (o ∷ os) = o.outer

abbrev pub innermost : List Open → Option Open
innermost [] = None
innermost (o ∷ os) = Some o

abbrev pub others : List Open → List Open
others [] = []
others (o ∷ os) = os

-- a conditional with this value of its condition; one in a group that isn't taken has none
abbrev pub opened : OutToken → Bool → Bool → Open
opened name outer value = record {
  name = name.site;
  outer = outer;
  taken = outer && value;
  more = outer && not value;
  last = false;
}

-- the next group of a conditional, which is taken where it may be and has this value
abbrev pub next_group : Bool → Open → Open
next_group value o = record o { taken = o.more && value; more = o.more && not value }

-- a condition: with no line known, and again with the lines of the text where one is wanted
abbrev pub cond_by : Definitions → List OutToken → Expanded → Cond
cond_by table ts e = record { truth = truth table e; used = e.used; macros = macros table ts e e.asked }

abbrev pub condition_again : Text → List OutToken → Made → FromFiles Cond
condition_again text ts m =
    and_then (lines_in text.source ts) (λ lines.
    Gives (cond_by (definitions m) ts (expansion (definitions m) lines m.left ts)))

abbrev pub asks : Truth → Bool
asks (Asks site) = true
asks _ = false

abbrev pub unless_asked : FromFiles Cond → Cond → Option TokId → FromFiles Cond
unless_asked again c None = Gives c
unless_asked again c (Some site) = again

abbrev pub condition_in : Text → List OutToken → Made → FromFiles Cond
condition_in text ts m =
    let e : Expanded = expansion (definitions m) [] m.left ts in
    unless_asked (condition_again text ts m) (cond_by (definitions m) ts e) e.asked

pub record Decided : Type 0 where
  pub value : Bool
  pub made : Made

abbrev pub with_cond : Cond → Made → Made
with_cond c m = record m { left = m.left - c.used; macros = m.macros ++ c.macros }

-- a condition that is Bad is rule 224, on its directive's name, and its group isn't taken
abbrev pub holds : Truth → Bool
holds Yes = true
holds _ = false

abbrev pub told_bad : OutToken → Truth → Made → Made
told_bad name Bad m = with_fault 224 name.site [] m
told_bad name _ m = m

abbrev pub decided : Bool → Made → Decided
decided value m = record { value = value; made = m }

abbrev pub told : OutToken → Cond → Made → Decided
told name c m = decided (holds c.truth) (told_bad name c.truth (with_cond c m))

abbrev pub decide : Text → OutToken → List OutToken → Made → FromFiles Decided
decide text name ts m = and_then (condition_in text ts m) (λ c. Gives (told name c m))

-- conditionals that are open, and what is made
pub record Stand : Type 0 where
  pub open_ones : List Open
  pub made : Made

abbrev pub stand : List Open → Made → Stand
stand os m = record { open_ones = os; made = m }

abbrev pub opened_by : OutToken → List Open → Decided → Stand
opened_by name os d = stand (opened name true d.value ∷ os) d.made

-- `#if`
abbrev pub if_group : Text → OutToken → List OutToken → List Open → Made → FromFiles Stand
if_group text name ts os m =
    if is_taken os
    then and_then (decide text name ts m) (λ d. Gives (opened_by name os d))
    else Gives (stand (opened name false false ∷ os) m)

abbrev pub same_bool : Bool → Bool → Bool
same_bool true b = b
same_bool false b = not b

-- `#ifdef` and `#ifndef`: one identifier, else rule 221, and the group isn't taken; `wanted` says which of both it is
abbrev pub faulty : OutToken → Made → Decided
faulty name m = decided false (with_fault 221 name.site [] m)

abbrev pub tested : OutToken → Bool → List OutToken → Made → Decided
tested name wanted [] m = faulty name m
tested name wanted (t ∷ ts) m =
    if is_ident t.kind then alone name wanted t ts (with_occurrence Tests t m) else faulty name m
  where
    alone : OutToken → Bool → OutToken → List OutToken → Made → Decided
    alone name wanted t [] m = decided (same_bool wanted (is_defined (definitions m) t.spelling)) m
    alone name wanted t (u ∷ us) m = faulty name m

abbrev pub ifdef_group : OutToken → Bool → List OutToken → List Open → Made → Stand
ifdef_group name wanted ts os m =
    if is_taken os then opened_by name os (tested name wanted ts m) else stand (opened name false false ∷ os) m

-- `#elif`: its condition is read where no group was taken and one may be; behind `#else` it is rule 221, and without a
-- conditional rule 225
abbrev pub elif_by : Open → List Open → Decided → Stand
elif_by o os d = stand (next_group d.value o ∷ os) d.made

abbrev pub elif_decided : Text → OutToken → List OutToken → Open → List Open → Made → FromFiles Stand
elif_decided text name ts o os m = and_then (decide text name ts m) (λ d. Gives (elif_by o os d))

abbrev pub fault_where : Bool → ℕ → TokId → Made → Made
fault_where shown rule tok m = if shown then with_fault rule tok [] m else m

abbrev pub elif_group : Text → OutToken → List OutToken → List Open → Made → FromFiles Stand
elif_group text name ts [] m = Gives (stand [] (with_fault 225 name.site [] m))
elif_group text name ts (o ∷ os) m =
    if o.last then Gives (stand (o ∷ os) (fault_where o.outer 221 name.site m))
    else (if o.more then elif_decided text name ts o os m else Gives (stand (next_group false o ∷ os) m))

-- tokens behind `#else` and `#endif` are a warning, rule 230, on the first
abbrev pub extra : Bool → List OutToken → Made → Made
extra shown [] m = m
extra shown (t ∷ ts) m = fault_where shown 230 t.site m

-- the last group is taken where none before it was, and one may be
abbrev pub last_group : Open → Open
last_group o = record o { taken = o.more; more = false; last = true }

abbrev pub else_group : OutToken → List OutToken → List Open → Made → Stand
else_group name ts [] m = stand [] (with_fault 225 name.site [] m)
else_group name ts (o ∷ os) m =
    if o.last then stand (o ∷ os) (fault_where o.outer 221 name.site m)
    else stand (last_group o ∷ os) (extra o.outer ts m)

abbrev pub endif_line : OutToken → List OutToken → List Open → Made → Stand
endif_line name ts [] m = stand [] (with_fault 225 name.site [] m)
endif_line name ts (o ∷ os) m = stand os (extra o.outer ts m)

-- where a text ends, its innermost open conditional is rule 226
abbrev pub unclosed : List Open → Made → Made
unclosed [] m = m
unclosed (o ∷ os) m = with_fault 226 o.name [] m
