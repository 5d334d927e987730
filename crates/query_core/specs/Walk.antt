-- The walk of a demand: what stands in each frame of its path, and what one step does.
use Rattle.std.specs.Prelude.{◌≡◌, ℕ, ◌<◌, ◌≤◌, ◌+◌, true, false, List, [], ◌∷◌, ◌++◌, length, take, Option, Some, None, ◌⊎◌, slice_get, Result, Ok, Err}
use Rattle.query_core.specs.Lists.{Has, Each}
use Rattle.query_core.specs.Queries.{Queries, answers}
use Rattle.query_core.specs.Graph.{Held, at, node_of, record_of, inputs, is_current, is_verified}
use Rattle.query_core.specs.Soundness.{IsSound, IsUnswept}
use Rattle.query_core.specs.Changes.{Puts, IsStamped}
use Rattle.query_core.specs.Node.{Node}
use Rattle.query_core.specs.declared.frame.Frame.{Frame}
use Rattle.query_core.specs.declared.frame.Stage.{Stage}
use Rattle.query_core.specs.declared.frame.Stage.TheVariants.{Unset, Start, Check, Run}
use Rattle.query_core.specs.declared.frame.Moved.{Moved}
use Rattle.query_core.specs.declared.frame.Moved.TheVariants.{Waits, Done}
use Rattle.query_core.specs.declared.frame.Halt.{Halt}
use Rattle.query_core.specs.declared.frame.Halt.TheVariants.{Pauses, Ends}
use Rattle.query_core.specs.declared.frame.Found.{Found}
use Rattle.query_core.specs.declared.frame.Found.TheVariants.{Current, Behind}
use Rattle.query_core.specs.declared.frame.Look.{Look}
use Rattle.query_core.specs.declared.frame.Look.TheVariants.{Settled, Altered, Open}
use Rattle.query_core.specs.declared.frame.Checked.{Checked}
use Rattle.query_core.specs.declared.frame.Checked.TheVariants.{Unchanged, Changed, Stale}

module _ {K V : Type 0} (q : Queries K V) (g : Held K V) where
  -- the record at the node was verified now
  abbrev pub IsVerifiedAt : ℕ → Type 0
  IsVerifiedAt j = (d : Node K V) × ((at g j ≡ Some d) × (is_current q g d ≡ true))

  -- it was verified now, and didn't change after this revision
  abbrev pub IsSettled : ℕ → ℕ → Type 0
  IsSettled since j = (d : Node K V) × ((at g j ≡ Some d) × (is_current q g d ≡ true) × (d.changed_at ≤ since))

  -- it was verified now, and changed after this revision
  abbrev pub HasMoved : ℕ → ℕ → Type 0
  HasMoved since j = (d : Node K V) × ((at g j ≡ Some d) × (is_current q g d ≡ true) × (since < d.changed_at))

  -- the first reads of the record are settled
  abbrev pub IsSettledTo : Node K V → ℕ → Type 0
  IsSettledTo r place = (place ≤ length r.reads) × Each (IsSettled r.verified_at) (take place r.reads)

  -- the key has no record, or a read of its record was verified now and has changed since the record was verified
  abbrev pub IsOutdated : K → Type 0
  IsOutdated k = (record_of q g k ≡ None) ⊎ ((r : Node K V) × ((record_of q g k ≡ Some r) × ((j : ℕ) × (Has r.reads j × HasMoved r.verified_at j))))

  -- the nodes hold the values of the first of these keys, each verified now
  abbrev pub AreAnswered : List K → List ℕ → Type 0
  AreAnswered keys [] = Unit {0}
  AreAnswered [] (j ∷ js) = ⊥
  AreAnswered (k ∷ ks) (j ∷ js) = ((d : Node K V) × ((at g j ≡ Some d) × (d.key ≡ k) × (is_current q g d ≡ true))) × AreAnswered ks js

  -- what was asked is the front of what the key reads
  abbrev pub AreAsked : K → List K → Type 0
  AreAsked k asked = (more : List K) × (q.asks (inputs q g) k ≡ asked ++ more)

  -- the reads of the key's record are settled before a place
  abbrev pub IsChecking : K → ℕ → ℕ → Type 0
  IsChecking k node place = (q.is_input k ≡ false) × ((r : Node K V) × ((node_of q g k ≡ Some node) × (at g node ≡ Some r) × IsSettledTo r place))

  -- a run of the key has asked these keys, and has these answers
  abbrev pub IsRunning : K → List K → List ℕ → Type 0
  IsRunning k asked answered = (q.is_input k ≡ false) × IsOutdated k × AreAsked k asked × AreAnswered asked answered

  -- where the record of the key stands
  abbrev pub IsFound : K → Found → Type 0
  IsFound k (Current i) = (node_of q g k ≡ Some i) × (is_verified q g k ≡ true)
  IsFound k (Behind o) = (node_of q g k ≡ o) × (is_verified q g k ≡ false)

  -- what a look at one read says
  abbrev pub IsLookAt : ℕ → ℕ → Look → Type 0
  IsLookAt since j Settled = IsSettled since j
  IsLookAt since j Altered = HasMoved since j
  IsLookAt since j Open = (d : Node K V) × ((at g j ≡ Some d) × (is_current q g d ≡ false))

  -- the reads of the record from a place on: what a look at them says
  abbrev pub IsLook : Node K V → Checked → Type 0
  IsLook r Unchanged = IsSettledTo r (length r.reads)
  IsLook r Changed = (j : ℕ) × (Has r.reads j × HasMoved r.verified_at j)
  IsLook r (Stale place) = IsSettledTo r place × ((j : ℕ) × ((d : Node K V) × ((slice_get r.reads place ≡ Some j) × (at g j ≡ Some d) × (is_current q g d ≡ false))))

  -- what the keys asked so far say after a look at their answers
  abbrev pub IsCollected : List K → List ℕ → Option (K × Option ℕ) → Type 0
  IsCollected asked answered None = AreAnswered asked answered × (length answered ≡ length asked)
  IsCollected asked answered (Some on) = AreAnswered asked answered × Has asked on.0 × (is_verified q g on.0 ≡ false) × (node_of q g on.0 ≡ on.1)

  -- where a run halts: at a key that isn't verified, or with the value of its key
  abbrev pub IsHalt : K → List K → List ℕ → Halt K V → Type 0
  IsHalt k asked answered (Pauses on at_node) = IsRunning k asked answered × Has asked on × (is_verified q g on ≡ false) × (node_of q g on ≡ at_node)
  IsHalt k asked answered (Ends value) = AreAnswered (q.asks (inputs q g) k) answered × (length answered ≡ length (q.asks (inputs q g) k)) × (value ≡ q.val (inputs q g) k)

  -- a run of the key may enter this value with these reads
  pub record IsEntry (k : K) (value : V) (reads : List ℕ) : Type 0 where
    pub no_input : q.is_input k ≡ false
    pub stale : is_verified q g k ≡ false
    pub outdated : IsOutdated k
    pub answered : AreAnswered (q.asks (inputs q g) k) reads
    pub all : length reads ≡ length (q.asks (inputs q g) k)
    pub value_is : value ≡ q.val (inputs q g) k

module _ {K V S : Type 0} (q : Queries K V) (has_read : K → S → List (K × V) → Type 0) (g : Held K V) where
  -- the run of the key has read the answers of the first of these keys
  abbrev pub HasBegun : K → S → List K → Type 0
  HasBegun k run asked = (first more : List K) × ((asked ≡ first ++ more) × has_read k run (answers (q.val (inputs q g)) first))

  -- how far the work on a key has come
  abbrev pub IsStage : K → Stage K S → Type 0
  IsStage k Unset = (q.is_input k ≡ true) × (record_of q g k ≡ None)
  IsStage k (Check node place) = IsChecking q g k node place
  IsStage k Start = (node_of q g k ≡ None) × IsRunning q g k [] []
  IsStage k (Run running) = (node_of q g k ≡ running.value.node) × IsRunning q g k running.value.asked running.value.answered × HasBegun k running.value.run running.value.asked

  -- the key of the frame isn't verified now
  pub record IsFrame (frame : Frame K S) : Type 0 where
    pub stale : is_verified q g frame.key ≡ false
    pub stage : IsStage frame.key frame.stage

  -- the frames, the last first, lead from the root to the key
  abbrev pub Leads : K → K → List (Frame K S) → Type 0
  Leads root k [] = k ≡ root
  Leads root k (f ∷ fs) = Has (q.asks (inputs q g) f.key) k × IsFrame f × Leads root f.key fs

module _ {K V : Type 0} where
  -- how a key was finished: its record was verified, its run gave a value, or it became an input that isn't set
  abbrev pub HowFinished : Queries K V → Held K V → Held K V → ℕ → Node K V → Type 0
  HowFinished q old new i r =
      ((new.runs ≡ old.runs) × ((s : Node K V) × ((at old i ≡ Some s) × (r ≡ record s { verified_at = old.revision }))))
      ⊎ (((new.runs ≡ old.runs ++ r.key ∷ []) × (q.is_input r.key ≡ false) × IsOutdated q old r.key × IsStamped old.revision (record_of q old r.key) r)
      ⊎ ((new.runs ≡ old.runs) × (q.is_input r.key ≡ true) × (at old i ≡ None) × (r.value ≡ q.unset r.key) × (r.changed_at ≡ old.revision)))

  -- the key was finished at the node, and nothing else was touched
  pub record Finishes (q : Queries K V) (old new : Held K V) (k : K) (i : ℕ) : Type 0 where
    pub entry : Node K V
    pub puts : Puts q old new i entry
    pub demanded_at : new.demanded_at ≡ old.demanded_at
    pub key : entry.key ≡ k
    pub current : is_current q old entry ≡ true
    pub how : HowFinished q old new i entry

  -- how often a run counts that halts so
  abbrev pub halted : {E : Type 0} → Result (Halt K V) E → ℕ
  halted (Ok (Pauses on at_node)) = 0
  halted (Ok (Ends value)) = 1
  halted (Err e) = 0

  -- after want of memory the graph is as before, and the counter rose by one at most
  abbrev pub IsGivenUp : Held K V → Held K V → ℕ → ℕ → Type 0
  IsGivenUp old new steps steps' = (new ≡ old) × (steps ≤ steps') × (steps' ≤ steps + 1)

  -- what a step of the walk on a frame gives, with the counter before and after
  abbrev pub IsStep : {S : Type 0} → Queries K V → (K → S → List (K × V) → Type 0) → Held K V → Held K V → K → ℕ → ℕ → Moved K S → Type 0
  IsStep q has_read old new k steps steps' (Waits frame on at_node) =
      (new ≡ old) × (steps' ≡ steps) × (frame.key ≡ k) × IsFrame q has_read old frame × Has (q.asks (inputs q old) k) on × (is_verified q old on ≡ false) × (node_of q old on ≡ at_node)
  IsStep q has_read old new k steps steps' (Done node) = Finishes q old new k node × IsSound q new × (steps' + length old.runs ≡ steps + length new.runs) × IsUnswept q new
