-- What serving a client promises of a call whose wire tells what it has.
use Rattle.std.specs.Prelude.{◌≢◌, List, Option}
use Rattle.io_edges.specs.Store.{Entry}
use Rattle.io_edges.specs.Wire.{Traffic}
use Rattle.project_conf.specs.declared.options.Options.{Options}
use Rattle.c_session.specs.Handled.{Answered}
use Rattle.c11ls.specs.Calls.{call_of, AddsUp}
use Rattle.c11ls.specs.Exchanges.{HasAnswered}
use Rattle.c11ls.specs.Serve.{HadNoEnd, HasWritten, HasUsed, HasVerdict, HasReadPortions, ArePrompt, AreWanted}
use Rattle.c11ls.specs.declared.status.Status.{Status}
use Rattle.c11ls.specs.declared.status.Status.TheVariants as status

-- There is one list of answers of the store, of which all else is said: those that it gave in the call, in order.
pub record Served (options : Options) (ended : Status) (told told' : Option (List Entry)) (old new : Traffic) : Type 0 where
  pub answers : List Entry
  -- where the store tells its answers, it goes on telling, and these stand behind those that it told before
  pub answered : Answered answers told told'
  -- words that ask for a client to be served are in the grammar
  pub serving : ended ≢ status.Usage
  -- what the source had left is what was taken and what it has left; what was written stands behind what the sink had
  pub consumed : AddsUp old new (call_of old new answers)
  -- the bytes that the sink got are those of the plain server
  pub written : HasWritten options ended (call_of old new answers)
  -- they are the replies to the contents that were handled, in order: one response for each request, none for a notification
  pub responded : HasAnswered options ended (call_of old new answers)
  -- the store's answers were all used; where the call ended early in a message, the others were given to that message
  pub used : HasUsed options ended (call_of old new answers)
  -- each of them was wanted by the plain server with the answers before it, whatever the status
  pub wanted : AreWanted options (call_of old new answers)
  -- each reply was written before more was read, and nothing was read after the end
  pub prompt : ArePrompt options (call_of old new answers)
  -- no read took more than 65,536 bytes
  pub portions : HasReadPortions (call_of old new answers)
  -- the status is the plain server's verdict, where it tells one
  pub verdict : HasVerdict options ended (call_of old new answers)
  -- where the source failed, or 2^62 bytes were taken, no `exit` was met before and what stood wasn't faulty
  pub no_end : HadNoEnd options ended (call_of old new answers)
