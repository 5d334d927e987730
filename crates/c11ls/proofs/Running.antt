-- The loop that reads.
use Rattle.std.proofs.Common.{◌≡◌, ◌≤◌, ◌<◌, ◌+◌, ◌*◌, ◌^◌, ℕ, List, [], ◌++◌, take, length, Option, None, Some, option_map, IfSome, refl, sym, ap, subst, ◌∙◌, arith, length-append}
use Rattle.std.proofs.lemmas.List.{length-take-le}
use Rattle.std.proofs.lemmas.Option.{slice_get_within}
use Rattle.lsp_framing.specs.Frames.{frames}
use Rattle.io_edges.specs.Store.{Entry}
use Rattle.io_edges.specs.Wire.{Traffic, after_read}
use Rattle.lsp_framing.specs.Standing.{Standing, Follows}
use Rattle.lsp_framing.specs.declared.FrameKind.{FrameKind}
use Rattle.lsp_framing.specs.declared.FrameKind.TheVariants.{Cut}
use Rattle.c11ls.specs.Ties.Going.{Going, Settled, Ended, EndsInput, IsInStep}
use Rattle.project_conf.specs.declared.options.Options.{Options}
use Rattle.c_session.specs.State.{State, fresh}
use Rattle.c11ls.specs.Serve.{most_read}
use Rattle.c11ls.specs.Ties.Turn.{IsCounted, Stands}
use Rattle.c11ls.specs.declared.status.Status.{Status}
use Rattle.c11ls.specs.declared.status.Status.TheVariants.{Done, Unclean, Usage, BadFrame, ReadFault, WriteFault, StoreFault, NoMemory, LongInput}
use Rattle.c11ls.proofs.EndingUp.{ends_empty, ends_cut}
use Rattle.c11ls.proofs.Framing.{ContentsStay}
use Rattle.c11ls.proofs.Interrupting.{interrupted_between}
use Rattle.c11ls.proofs.GoingOn.{Gave, follows_size, settled_reads, settled_unfed, whatever_left}
use Rattle.c11ls.proofs.Reacting.{nothing_answered}
use Rattle.c11ls.proofs.Moving.{moves_nothing}

-- memory was wanted before anything was done
pub ends_at_once : (options : Options) (w : Option Traffic) (a : Option (List Entry)) → Ended options NoMemory w w a a
ends_at_once options w a = record {
  taken = [];
  out = [];
  moments = [];
  answers = [];
  did = moves_nothing options w a (nothing_answered a);
  usual = tt;
  outcome = whatever_left w options NoMemory [] [] [] (λ left. interrupted_between options [] [] (fresh options) [] [] refl refl);
}

pub read_nothing : (w w' : Option Traffic) (items : List ℕ) (n : ℕ) → n ≡ 0 → w' ≡ option_map (after_read (take n items)) w → w' ≡ w
read_nothing None w' items n none read = read
read_nothing (Some t) w' items n none read = read ∙ ap (λ (k : ℕ). Some (after_read (take k items) t)) none

-- the input ended
pub input_ends : (options : Options) (ended : Status) (w0 w w' : Option Traffic) (a0 a : Option (List Entry)) (s : State) (standing : Standing) (size : ℕ) →
    EndsInput ended standing size → w' ≡ w → IfSome w (λ t. t.left ≡ []) → Settled options w0 w a0 a s standing size → Ended options ended w0 w' a0 a
input_ends options Unclean w0 w w' a0 a s standing size ends still at_end settled = ends_empty options w0 w w' a0 a s standing size still at_end ends settled
input_ends options (BadFrame place kind) w0 w w' a0 a s standing size ends still at_end settled =
    subst (λ (k : FrameKind). Ended options (BadFrame place k) w0 w' a0 a) (sym ends.1)
    (subst (λ p. Ended options (BadFrame p Cut) w0 w' a0 a) (sym ends.0) (ends_cut options w0 w w' a0 a s standing size still at_end ends.2 settled))
input_ends options Done w0 w w' a0 a s standing size ends still at_end settled = absurd ends
input_ends options Usage w0 w w' a0 a s standing size ends still at_end settled = absurd ends
input_ends options ReadFault w0 w w' a0 a s standing size ends still at_end settled = absurd ends
input_ends options WriteFault w0 w w' a0 a s standing size ends still at_end settled = absurd ends
input_ends options StoreFault w0 w w' a0 a s standing size ends still at_end settled = absurd ends
input_ends options NoMemory w0 w w' a0 a s standing size ends still at_end settled = absurd ends
input_ends options LongInput w0 w w' a0 a s standing size ends still at_end settled = absurd ends

pub input_counted : (ended : Status) (standing : Standing) (size r r' v v' s s' : ℕ) → EndsInput ended standing size → Stands r r' v v' s s' → IsCounted (Some ended) r r' v v' s s'
input_counted Unclean standing size r r' v v' s s' ends stands = stands
input_counted (BadFrame place kind) standing size r r' v v' s s' ends stands = stands
input_counted Done standing size r r' v v' s s' ends stands = absurd ends
input_counted Usage standing size r r' v v' s s' ends stands = absurd ends
input_counted ReadFault standing size r r' v v' s s' ends stands = absurd ends
input_counted WriteFault standing size r r' v v' s s' ends stands = absurd ends
input_counted StoreFault standing size r r' v v' s s' ends stands = absurd ends
input_counted NoMemory standing size r r' v v' s s' ends stands = absurd ends
input_counted LongInput standing size r r' v v' s s' ends stands = absurd ends

-- the counts behind two steps, of which the first ended nothing
pub counted_on : (ended : Option Status) (r r' r'' v v' v'' s s' s'' : ℕ) → Stands r r' v v' s s' → IsCounted ended r' r'' v' v'' s' s'' → IsCounted ended r r'' v v'' s s''
counted_on ended r r' r'' v v' v'' s s' s'' stands counted =
    subst (λ n. IsCounted ended n r'' v v'' s s'') stands.read_is
    (subst (λ n. IsCounted ended r' r'' n v'' s s'') stands.write_is
    (subst (λ n. IsCounted ended r' r'' v' v'' n s'') stands.store_is counted))

-- bytes were read and fed
pub reads_on : ContentsStay → (options : Options) (w0 w w' : Option Traffic) (a0 a : Option (List Entry)) (s : State) (standing standing' : Standing) (size n : ℕ) (items bytes : List ℕ) →
    n ≤ length items → n ≤ most_read → (n ≡ 0 → ⊥) → bytes ≡ take n items → w' ≡ option_map (after_read (take n items)) w → IfSome w (λ t. take n t.left ≡ take n items) →
    ((fed : List ℕ) (given : ℕ) → Follows fed given standing → Follows (fed ++ bytes) given standing') →
    Settled options w0 w a0 a s standing size → Going options w0 w' a0 a s standing' (size + n)
reads_on stays options w0 w w' a0 a s standing standing' size n items bytes within small some is read next fed settled =
    let len : length (take n items) ≡ n = length-take-le n items within in
    let front : IfSome w (λ t. take (length (take n items)) t.left ≡ take n items) = subst (λ k. IfSome w (λ t. take k t.left ≡ take n items)) (sym len) next in
    subst (λ k. Going options w0 w' a0 a s standing' (size + k)) len
    (settled_reads stays options w0 w w' a0 a s standing standing' size (take n items) (omega (arith, some)) (subst (λ k. k ≤ most_read) (sym len) small) read front
    (subst (λ (b : List ℕ). (fed : List ℕ) (given : ℕ) → Follows fed given standing → Follows (fed ++ b) given standing') is fed) settled)

-- bytes were read, and there was no memory for them
pub reads_unfed : ContentsStay → (options : Options) (w0 w w' : Option Traffic) (a0 a : Option (List Entry)) (s : State) (standing : Standing) (size n : ℕ) (items : List ℕ) →
    n ≤ length items → n ≤ most_read → (n ≡ 0 → ⊥) → w' ≡ option_map (after_read (take n items)) w → IfSome w (λ t. take n t.left ≡ take n items) →
    Settled options w0 w a0 a s standing size → Ended options NoMemory w0 w' a0 a
reads_unfed stays options w0 w w' a0 a s standing size n items within small some read next settled =
    let len : length (take n items) ≡ n = length-take-le n items within in
    settled_unfed stays options w0 w w' a0 a s standing size (take n items) (omega (arith, some)) (subst (λ k. k ≤ most_read) (sym len) small) read
    (subst (λ k. IfSome w (λ t. take k t.left ≡ take n items)) (sym len) next) settled

-- ---- how many contents the session handled

-- a content that was given is one of few
pub given_few : ((bytes : List ℕ) → length (frames bytes).contents * 20 ≤ length bytes) → (standing standing' : Standing) (handled : ℕ) (content : List ℕ) →
    Gave content standing standing' → IsInStep standing handled → handled < 2 ^ 62
given_few few standing standing' handled content gave step =
    let within : handled < length (frames step.fed).contents = slice_get_within (frames step.fed).contents handled content (gave step.fed handled step.follows).0 in
    let much : length (frames step.fed).contents * 20 ≤ length step.fed = few step.fed in
    let short : length step.fed < 2 ^ 63 = step.short in
    omega (arith, within, much, short)

-- one more content was given and handled
pub step_given : (standing standing' : Standing) (handled handled' : ℕ) (content : List ℕ) →
    Gave content standing standing' → handled' ≡ handled + 1 → IsInStep standing handled → IsInStep standing' handled'
step_given standing standing' handled handled' content gave more step = record {
  fed = step.fed;
  follows = subst (λ n. Follows step.fed n standing') (sym more) (gave step.fed handled step.follows).1;
  short = step.short;
}

-- bytes were fed
pub step_fed : (standing standing' : Standing) (handled size n : ℕ) (bytes : List ℕ) →
    ((fed : List ℕ) (given : ℕ) → Follows fed given standing → Follows (fed ++ bytes) given standing') →
    standing.place + length standing.bytes ≡ size → size + n < 2 ^ 63 → length bytes ≤ n → IsInStep standing handled → IsInStep standing' handled
step_fed standing standing' handled size n bytes fed is small few step = record {
  fed = step.fed ++ bytes;
  follows = fed step.fed handled step.follows;
  short = omega (arith, length-append step.fed bytes, follows_size step.fed handled standing step.follows, is, small, few);
}
