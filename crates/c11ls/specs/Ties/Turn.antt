-- What writing a reply and handling one content do.
use Rattle.std.specs.Prelude.{◌≡◌, ◌<◌, ℕ, List, ◌++◌, take, Option, Some, None, option_map, false, ◌==◌}
use Rattle.io_edges.specs.Store.{Entry}
use Rattle.io_edges.specs.Wire.{Traffic, after_write}
use Rattle.c_session.specs.Ties.Interrupted as session
use Rattle.c_session.specs.Handled.{Handled}
use Rattle.c_session.specs.Ties.Interrupted.{Failed}
use Rattle.c_session.specs.React.{asks}
use Rattle.c_session.specs.State.{State}
use Rattle.c11ls.specs.declared.status.Status.{Status}
use Rattle.c11ls.specs.declared.status.Status.TheVariants as status

-- a front of the bytes was written, and the rest is to follow
pub record Sent (w w' : Option Traffic) (bytes rest : List ℕ) : Type 0 where
  pub front : List ℕ
  pub split : bytes ≡ front ++ rest
  pub told : w' ≡ option_map (after_write front) w

-- a front of the bytes was written, and no more
pub record SentFront (w w' : Option Traffic) (bytes : List ℕ) : Type 0 where
  pub size : ℕ
  pub told : w' ≡ option_map (after_write (take size bytes)) w

-- The reaction to a content was written, with the status of an end where it is one.
pub record Wrote (s : State) (content : List ℕ) (s' : State) (end : Option ℕ) (w w' : Option Traffic) (a a' : Option (List Entry)) : Type 0 where
  pub bytes : List ℕ
  pub handled : Handled s content s' bytes end a a'
  pub told : w' ≡ option_map (after_write bytes) w

-- a front of it was written
pub record WroteFront (s : State) (content : List ℕ) (w w' : Option Traffic) (a a' : Option (List Entry)) : Type 0 where
  pub state : State
  pub bytes : List ℕ
  pub end : Option ℕ
  pub handled : Handled s content state bytes end a a'
  pub sent : SentFront w w' bytes

-- an `exit` whose status is not 0
pub record WroteUnclean (s : State) (content : List ℕ) (s' : State) (w w' : Option Traffic) (a a' : Option (List Entry)) : Type 0 where
  pub end : ℕ
  pub unclean : (end == 0) ≡ false
  pub wrote : Wrote s content s' (Some end) w w' a a'

-- memory was wanted on the way to a reply, of which nothing was written
pub record GaveUp (s : State) (content : List ℕ) (w w' : Option Traffic) (a a' : Option (List Entry)) : Type 0 where
  pub gave_up : session.GaveUp (asks s content) a a'
  pub told : w' ≡ w

-- the store failed at a call that the reaction wants
pub record Lacked (s : State) (content : List ℕ) (w w' : Option Traffic) (a a' : Option (List Entry)) : Type 0 where
  pub failed : Failed (asks s content) a a'
  pub told : w' ≡ w

-- What one content did, by the status that it ends the call with, if it does.
abbrev pub Turned : Option Status → State → List ℕ → State → Option Traffic → Option Traffic → Option (List Entry) → Option (List Entry) → Type 0
Turned None s content s' w w' a a' = Wrote s content s' None w w' a a'
Turned (Some status.Done) s content s' w w' a a' = Wrote s content s' (Some 0) w w' a a'
Turned (Some status.Unclean) s content s' w w' a a' = WroteUnclean s content s' w w' a a'
Turned (Some status.WriteFault) s content s' w w' a a' = WroteFront s content w w' a a'
Turned (Some status.StoreFault) s content s' w w' a a' = Lacked s content w w' a a'
Turned (Some status.NoMemory) s content s' w w' a a' = GaveUp s content w w' a a'
Turned (Some status.Usage) s content s' w w' a a' = ⊥
Turned (Some (status.BadFrame place kind)) s content s' w w' a a' = ⊥
Turned (Some status.ReadFault) s content s' w w' a a' = ⊥
Turned (Some status.LongInput) s content s' w w' a a' = ⊥

-- How the counts of faults of the source, the sink and the store stand behind a step that ends the call with this
-- status, or doesn't: just the one that the status names rose.
pub record Stands (read read' write write' store store' : ℕ) : Type 0 where
  pub read_is : read' ≡ read
  pub write_is : write' ≡ write
  pub store_is : store' ≡ store

pub record ReadRose (read read' write write' store store' : ℕ) : Type 0 where
  pub read_rose : read < read'
  pub write_is : write' ≡ write
  pub store_is : store' ≡ store

pub record WriteRose (read read' write write' store store' : ℕ) : Type 0 where
  pub read_is : read' ≡ read
  pub write_rose : write < write'
  pub store_is : store' ≡ store

pub record StoreRose (read read' write write' store store' : ℕ) : Type 0 where
  pub read_is : read' ≡ read
  pub write_is : write' ≡ write
  pub store_rose : store < store'

abbrev pub IsCounted : Option Status → ℕ → ℕ → ℕ → ℕ → ℕ → ℕ → Type 0
IsCounted (Some status.ReadFault) r r' w w' s s' = ReadRose r r' w w' s s'
IsCounted (Some status.WriteFault) r r' w w' s s' = WriteRose r r' w w' s s'
IsCounted (Some status.StoreFault) r r' w w' s s' = StoreRose r r' w w' s s'
IsCounted None r r' w w' s s' = Stands r r' w w' s s'
IsCounted (Some status.Done) r r' w w' s s' = Stands r r' w w' s s'
IsCounted (Some status.Unclean) r r' w w' s s' = Stands r r' w w' s s'
IsCounted (Some (status.BadFrame place kind)) r r' w w' s s' = Stands r r' w w' s s'
IsCounted (Some status.Usage) r r' w w' s s' = Stands r r' w w' s s'
IsCounted (Some status.NoMemory) r r' w w' s s' = Stands r r' w w' s s'
IsCounted (Some status.LongInput) r r' w w' s s' = Stands r r' w w' s s'
