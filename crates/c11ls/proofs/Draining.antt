-- The loop that handles each whole frame.
use Rattle.std.proofs.Common.{◌≡◌, ℕ, List, Option, Some, subst, ◌∙◌}
use Rattle.io_edges.specs.Store.{Entry}
use Rattle.io_edges.specs.Wire.{Traffic}
use Rattle.lsp_framing.specs.Standing.{Standing}
use Rattle.c11ls.specs.Ties.Going.{Going, Ended}
use Rattle.project_conf.specs.declared.options.Options.{Options}
use Rattle.c_session.specs.State.{State}
use Rattle.c11ls.specs.Ties.Turn.{Turned, Stands}
use Rattle.c11ls.specs.declared.status.Status.{Status}
use Rattle.c11ls.specs.declared.status.Status.TheVariants.{Done, Unclean, Usage, BadFrame, ReadFault, WriteFault, StoreFault, NoMemory, LongInput}
use Rattle.c11ls.proofs.EndingUp.{ends_done, ends_unclean, ends_unwritten, ends_lacking, ends_giving_up}
use Rattle.c11ls.proofs.Framing.{ContentsStay}
use Rattle.c11ls.proofs.GoingOn.{Gave}

-- a content ended the call
pub turn_ends : ContentsStay → (options : Options) (ended : Status) (w0 w w' : Option Traffic) (a0 a a' : Option (List Entry)) (s s' : State) (content : List ℕ) (standing standing' : Standing) (size : ℕ) →
    Gave content standing standing' → Turned (Some ended) s content s' w w' a a' → Going options w0 w a0 a s standing size → Ended options ended w0 w' a0 a'
turn_ends stays options Done w0 w w' a0 a a' s s' content standing standing' size gave turned going = ends_done stays options w0 w w' a0 a a' s s' content standing standing' size gave turned going
turn_ends stays options Unclean w0 w w' a0 a a' s s' content standing standing' size gave turned going = ends_unclean stays options w0 w w' a0 a a' s s' content standing standing' size gave turned going
turn_ends stays options WriteFault w0 w w' a0 a a' s s' content standing standing' size gave turned going = ends_unwritten stays options w0 w w' a0 a a' s content standing standing' size gave turned going
turn_ends stays options StoreFault w0 w w' a0 a a' s s' content standing standing' size gave turned going = ends_lacking options w0 w w' a0 a a' s content standing standing' size gave turned going
turn_ends stays options NoMemory w0 w w' a0 a a' s s' content standing standing' size gave turned going = ends_giving_up options w0 w w' a0 a a' s content standing standing' size gave turned going
turn_ends stays options Usage w0 w w' a0 a a' s s' content standing standing' size gave turned going = absurd turned
turn_ends stays options (BadFrame place kind) w0 w w' a0 a a' s s' content standing standing' size gave turned going = absurd turned
turn_ends stays options ReadFault w0 w w' a0 a a' s s' content standing standing' size gave turned going = absurd turned
turn_ends stays options LongInput w0 w w' a0 a a' s s' content standing standing' size gave turned going = absurd turned

pub turned_at : (ended : Option Status) (s s' : State) (given content : List ℕ) (w w' : Option Traffic) (a a' : Option (List Entry)) →
    given ≡ content → Turned ended s given s' w w' a a' → Turned ended s content s' w w' a a'
turned_at ended s s' given content w w' a a' is turned = subst (λ (c : List ℕ). Turned ended s c s' w w' a a') is turned

pub stands_on : (r r' r'' v v' v'' s s' s'' : ℕ) → Stands r r' v v' s s' → Stands r' r'' v' v'' s' s'' → Stands r r'' v v'' s s''
stands_on r r' r'' v v' v'' s s' s'' first then = record {
  read_is = then.read_is ∙ first.read_is;
  write_is = then.write_is ∙ first.write_is;
  store_is = then.store_is ∙ first.store_is;
}
