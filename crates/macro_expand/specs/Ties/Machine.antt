-- What a state of the expansion stands for: the list that is expanded, in the replacements that wait for it.
use Rattle.std.specs.Prelude.{◌≡◌, ℕ, ◌+◌, ◌<◌, ◌≤◌, ◌⊎◌, Bool, List, [], ◌∷◌, length, None}
use Rattle.tok_data.specs.declared.sources.TokId.{TokId}
use Rattle.tok_data.specs.declared.tokens.OutToken.{OutToken}
use Rattle.macro_table.specs.declared.definition.MacroDef.{MacroDef}
use Rattle.macro_expand.specs.declared.types.Marked.{Marked}
use Rattle.macro_expand.specs.declared.types.Progress.{Progress}
use Rattle.macro_expand.specs.declared.types.Outcome.{Outcome}
use Rattle.macro_expand.specs.declared.building.Building.{Building}
use Rattle.macro_expand.specs.declared.building.Part.{Part}
use Rattle.macro_expand.specs.declared.advancing.Next.{Next}
use Rattle.macro_expand.specs.declared.advancing.Next.TheVariants.{Built, Wanted}
use Rattle.macro_expand.specs.declared.advancing.Advance.{Advance}
use Rattle.macro_expand.specs.declared.advancing.Advance.TheVariants.{Done, Paused}
use Rattle.macro_expand.specs.declared.expanding.Taken.{Taken}
use Rattle.macro_expand.specs.declared.expanding.Taken.TheVariants.{Settled, Called}
use Rattle.macro_expand.specs.declared.machine.Call.{Call}
use Rattle.macro_expand.specs.declared.machine.Frame.{Frame}
use Rattle.macro_expand.specs.declared.machine.Machine.{Machine}
use Rattle.macro_expand.specs.declared.machine.Stop.{Stop}
use Rattle.macro_expand.specs.declared.machine.Stop.TheVariants as stop
use Rattle.macro_expand.specs.Arguments.{arg_of}
use Rattle.macro_expand.specs.Ties.Codes.{Names}
use Rattle.macro_expand.specs.Ties.Numbers.{real, reals, real_args, real_building}
use Rattle.macro_expand.specs.declared.operands.Operand.{Operand}
use Rattle.macro_expand.specs.Substitution.{Expander}
use Rattle.macro_expand.specs.Ties.Building.{puts_operand, puts, puts_outcome, substituted}
use Rattle.macro_expand.specs.Expansion.{with_front}
use Rattle.macro_expand.specs.Ties.Steps as steps
use Rattle.macro_expand.specs.Ties.Steps.{again_with, after, real_step, IsNearer}

-- an operand that isn't joined to the one before it
abbrev pub operand_part : Expander → Building → Operand → Bool → Part
operand_part again b o raw = record { built = puts_operand again b o raw; more = o.more }

-- what a part of a replacement list makes, once its argument is expanded
abbrev pub part_of : (Names → Names) → Expander → Next → Part
part_of f again (Built b more) = record { built = real_building f b; more = more }
part_of f again (Wanted b space arg more) = record {
  built = puts_outcome space (real_building f b) (again b.progress (reals f arg));
  more = more;
}

abbrev pub next_left : Next → ℕ
next_left (Built b more) = b.progress.left
next_left (Wanted b space arg more) = b.progress.left

-- what a replacement list makes, once its arguments are expanded
abbrev pub building_of : (Names → Names) → Expander → MacroDef → List (List Marked) → TokId → Advance → Building
building_of f again def args site (Done b) = real_building f b
building_of f again def args site (Paused b space arg skip behind) =
    substituted again def args site skip
    (puts_outcome space (real_building f b) (again b.progress (reals f arg))) behind.now

abbrev pub advance_left : Advance → ℕ
advance_left (Done b) = b.progress.left
advance_left (Paused b space arg skip behind) = b.progress.left

-- fewer tokens of a replacement list are left where it waits
abbrev pub IsShorter : Advance → ℕ → Type 0
IsShorter (Done b) n = Unit {0}
IsShorter (Paused b space arg skip behind) n = length behind.now < n

abbrev pub advanced : (Names → Names) → Expander → Call → Advance → Building
advanced f again c a = building_of f again c.def.now (real_args f c.args) c.token.token.site a

-- the whole replacement list
abbrev pub built : (Names → Names) → Expander → Progress → Call → Building
built f again p c = steps.built again p (real f c.token) c.def.now (real_args f c.args)

-- what a replacement list makes that waits for an argument
abbrev pub paused : (Names → Names) → Expander → Call → Building → Bool → List Marked → ℕ → List OutToken → Building
paused f again c b space arg skip behind =
    substituted again c.def.now (real_args f c.args) c.token.token.site skip
    (puts_outcome space (real_building f b) (again b.progress (reals f arg))) behind

-- no parameter stands in a list
abbrev pub Unmentioned : MacroDef → List (List Marked) → List OutToken → Type 0
Unmentioned def args [] = Unit {0}
Unmentioned def args (t ∷ ts) = (arg_of def args t ≡ None) × Unmentioned def args ts

-- the same call with other arguments
abbrev pub with_args : Call → List (List Marked) → Call
with_args c args = record {
  token = c.token;
  names = c.names;
  def = c.def;
  args = args;
  done = c.done;
  rest = c.rest;
}

-- arguments that do for the rest of a replacement list
abbrev pub AreEnough : Call → List (List Marked) → List OutToken → Type 0
AreEnough c args list =
    (f : Names → Names) (again : Expander) (skip : ℕ) (b : Building)
    → substituted again c.def.now (real_args f args) c.token.token.site skip b list
    ≡ substituted again c.def.now (real_args f c.args) c.token.token.site skip b list

-- what a list becomes, of which a name is replaced
abbrev pub ended : (Names → Names) → Expander → Call → Building → Outcome
ended f again c b = with_front (reals f c.done) (again_with again (real f c.token) (f c.names) (reals f c.rest) b)

-- what a waiting replacement makes of its expanded argument
abbrev pub resumed : (Names → Names) → Expander → Frame → Outcome → Building
resumed f again w o =
    substituted again w.call.def.now (real_args f w.call.args) w.call.token.token.site w.skip
    (puts w.space o.tokens (record {
      progress = o.progress;
      tokens = reals f w.tokens;
      space = w.before;
      empty = w.empty;
      first = w.first;
    }))
    w.behind.now

abbrev pub resume : (Names → Names) → Expander → List Frame → Outcome → Outcome
resume f again [] o = o
resume f again (w ∷ ws) o = resume f again ws (ended f again w.call (resumed f again w o))

abbrev pub outcome : (Names → Names) → Expander → Machine → Outcome
outcome f again m =
    resume f again m.frames.items (with_front (reals f m.level.done) (again m.level.progress (reals f m.level.rest)))

-- what is left of the replacement lists that wait
abbrev pub waiting : List Frame → ℕ
waiting [] = 0
waiting (f ∷ fs) = (length f.behind.now + 1) + waiting fs

abbrev pub advance_waiting : Advance → ℕ
advance_waiting (Done b) = 0
advance_waiting (Paused b space arg skip behind) = length behind.now + 1

-- what comes of a token
abbrev pub taken_outcome : (Names → Names) → Expander → Taken → Outcome
taken_outcome f again (Settled s) = after again (real_step f s)
taken_outcome f again (Called p t def args names ts) =
    again_with again (real f t) (f names) (reals f ts) (steps.built again p (real f t) def.now (real_args f args))

abbrev pub IsTaken : Taken → ℕ → List Marked → Type 0
IsTaken (Settled s) left ts = IsNearer s left ts
IsTaken (Called p t def args names us) left ts = p.left < left

-- where a list stops
abbrev pub stop_outcome : (Names → Names) → Expander → Stop → Outcome
stop_outcome f again (stop.Level w) = with_front (reals f w.done) (again w.progress (reals f w.rest))
stop_outcome f again (stop.Called p c) = ended f again c (built f again p c)

abbrev pub IsStop : Stop → ℕ → Type 0
IsStop (stop.Level w) left = (w.progress.left ≤ left) × ((w.rest ≡ []) ⊎ (w.progress.left < left))
IsStop (stop.Called p c) left = p.left < left

-- all is expanded, or one replacement more is made
abbrev pub IsClimbed : Machine → ℕ → Type 0
IsClimbed m left = ((m.level.rest ≡ []) × (m.frames.items ≡ [])) ⊎ (m.level.progress.left < left)
