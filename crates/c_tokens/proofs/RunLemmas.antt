-- A run goes on, or stops, with the character that is read.
use Rattle.std.proofs.Common.{◌≡◌, ℕ, ◌+◌, List, [], ◌∷◌, refl, ap, sym, ◌∙◌, arith, Some, None, Option}
use Rattle.std.specs.Option.{option_map_or}
use Rattle.c_tokens.specs.declared.classes.State.{State}
use Rattle.c_tokens.specs.Classes.{run, last_state, next_state}

run_some : (c : ℕ) (cs : List ℕ) (state next : State) → Some next ≡ next_state state c → run (c ∷ cs) state ≡ 1 + run cs next
run_some c cs state next e = ap (λ (o : Option State). option_map_or (λ t. 1 + run cs t) o 0) (sym e)

run_none : (c : ℕ) (cs : List ℕ) (state : State) → None ≡ next_state state c → run (c ∷ cs) state ≡ 0
run_none c cs state e = ap (λ (o : Option State). option_map_or (λ t. 1 + run cs t) o 0) (sym e)

last_some : (c : ℕ) (cs : List ℕ) (state next : State) → Some next ≡ next_state state c → last_state (c ∷ cs) state ≡ last_state cs next
last_some c cs state next e = ap (λ (o : Option State). option_map_or (λ t. last_state cs t) o state) (sym e)

last_none : (c : ℕ) (cs : List ℕ) (state : State) → None ≡ next_state state c → last_state (c ∷ cs) state ≡ state
last_none c cs state e = ap (λ (o : Option State). option_map_or (λ t. last_state cs t) o state) (sym e)

-- a run of which `count` characters were read, with `codes` ahead
pub record Runs (count : ℕ) (codes : List ℕ) (state : State) (all : List ℕ) (from : State) : Type 0 where
  pub total : count + run codes state ≡ run all from
  pub last : last_state codes state ≡ last_state all from

-- what has come out of it
pub record Ran (count : ℕ) (state : State) (all : List ℕ) (from : State) : Type 0 where
  pub total : count ≡ run all from
  pub last : state ≡ last_state all from

pub runs_begins : (all : List ℕ) (from : State) → Runs 0 all from all from
runs_begins all from = record { total = omega arith; last = refl }

pub runs_turns : (count c : ℕ) (codes cs : List ℕ) (state next : State) (all : List ℕ) (from : State) → codes ≡ c ∷ cs → Some next ≡ next_state state c → Runs count codes state all from → Runs (count + 1) cs next all from
runs_turns count c codes cs state next all from e goes runs =
    let more : run codes state ≡ 1 + run cs next = ap (λ xs. run xs state) e ∙ run_some c cs state next goes in
    record {
      total = omega (arith, more, runs.total);
      last = sym (ap (λ xs. last_state xs state) e ∙ last_some c cs state next goes) ∙ runs.last;
    }

pub runs_stops : (count c : ℕ) (codes cs : List ℕ) (state : State) (all : List ℕ) (from : State) → codes ≡ c ∷ cs → None ≡ next_state state c → Runs count codes state all from → Ran count state all from
runs_stops count c codes cs state all from e stops runs =
    let none : run codes state ≡ 0 = ap (λ xs. run xs state) e ∙ run_none c cs state stops in
    record {
      total = omega (arith, none, runs.total);
      last = sym (ap (λ xs. last_state xs state) e ∙ last_none c cs state stops) ∙ runs.last;
    }

pub runs_ends : (count : ℕ) (codes : List ℕ) (state : State) (all : List ℕ) (from : State) → codes ≡ [] → Runs count codes state all from → Ran count state all from
runs_ends count codes state all from e runs =
    let none : run codes state ≡ 0 = ap (λ xs. run xs state) e in
    record {
      total = omega (arith, none, runs.total);
      last = sym (ap (λ xs. last_state xs state) e) ∙ runs.last;
    }
