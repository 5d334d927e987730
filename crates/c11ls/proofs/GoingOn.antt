-- A call that goes on: by a content, by a read, and until each whole frame was handled.
use Rattle.std.proofs.Common.{◌≡◌, ◌≤◌, ◌<◌, ◌+◌, ℕ, List, [], ◌∷◌, ◌++◌, take, drop, length, Option, None, Some, option_map, IfSome, refl, sym, ap, subst, ◌∙◌, length-append, get_or, arith}
use Rattle.std.proofs.lemmas.List.{take-take, take_more, length-take, take_all}
use Rattle.std.proofs.lemmas.Option.{slice_get_within, get_or_from_slice_get}
use Rattle.std.proofs.Math.Seq.{take-append_seam}
use Rattle.std.specs.Prelude.{slice_get}
use Rattle.io_edges.specs.Store.{Entry}
use Rattle.io_edges.specs.Wire.{Traffic, after_read}
use Rattle.lsp_framing.specs.Frames.{frames}
use Rattle.lsp_framing.specs.Standing.{Standing, Follows, IsEmptyOrOpen}
use Rattle.c11ls.specs.Ties.Going.{Going, Settled, Moves, Ended, Outcome, through}
use Rattle.c_session.specs.Asking.{Asking, after_all}
use Rattle.c_session.specs.Handled.{Answered}
use Rattle.c_session.specs.React.{Outcome as Reply, asks}
use Rattle.c11ls.specs.Plain.{Played, play, played}
use Rattle.c11ls.specs.Serve.{IsPrompt, IsThrough, IsInterrupted, EachWanted, most_read}
use Rattle.project_conf.specs.declared.options.Options.{Options}
use Rattle.c_session.specs.State.{State, fresh}
use Rattle.c11ls.specs.Ties.Turn.{Wrote}
use Rattle.c11ls.specs.declared.status.Status.{Status}
use Rattle.c11ls.specs.declared.status.Status.TheVariants.{NoMemory}
use Rattle.c11ls.proofs.Framing.{ContentsStay}
use Rattle.c11ls.proofs.Interrupting.{left_to, interrupted, interrupted_between}
use Rattle.c11ls.proofs.Moving.{moves_writing, moves_reading, moves_nothing, moment_at}
use Rattle.c11ls.proofs.Playing.{play_one_more}
use Rattle.c11ls.proofs.Reacting.{handled_reacts, reached_wants}
use Rattle.c11ls.proofs.Wanting.{wanted_next, wanted_stays}

-- an outcome that holds whatever is left
pub whatever_left : (w0 : Option Traffic) (options : Options) (ended : Status) (taken out : List ℕ) (answers : List Entry) →
    ((left : List ℕ) → Outcome options ended taken out answers left) →
    IfSome w0 (λ t. Outcome options ended taken out answers (drop (length taken) t.left))
whatever_left None options ended taken out answers each = tt
whatever_left (Some t) options ended taken out answers each = each _

-- what the reader of frames says of the content that it gives
abbrev pub Gave : List ℕ → Standing → Standing → Type 0
Gave content standing standing' = (fed : List ℕ) (given : ℕ) → Follows fed given standing →
    (slice_get (frames fed).contents given ≡ Some content) × Follows fed (given + 1) standing'

pub one_longer : {A : Type 0} (xs : List A) (x : A) → length (xs ++ x ∷ []) ≡ length xs + 1
one_longer xs x = length-append xs (x ∷ [])

-- the first contents with the next one
pub first_more : (contents handled : List (List ℕ)) (content : List ℕ) →
    take (length handled) contents ≡ handled → slice_get contents (length handled) ≡ Some content →
    take (length (handled ++ content ∷ [])) contents ≡ handled ++ content ∷ []
first_more contents handled content first next =
    let within : length handled < length contents = slice_get_within contents (length handled) content next in
    ap (λ n. take n contents) (one_longer handled content)
    ∙ take_more contents (length handled) content within
    ∙ ap (λ (cs : List (List ℕ)). cs ++ get_or contents (length handled) content ∷ []) first
    ∙ ap (λ (c : List ℕ). handled ++ c ∷ []) (get_or_from_slice_get contents (length handled) content content next)

-- first contents are as many as they are
pub first_within : (contents handled : List (List ℕ)) → take (length handled) contents ≡ handled → length handled ≤ length contents
first_within contents handled first =
    let same : length (take (length handled) contents) ≡ length handled = ap length first in
    omega (arith, same, length-take (length handled) contents)

-- the first contents of an input stay, however it goes on
pub first_stays : ContentsStay → (a b : List ℕ) (handled : List (List ℕ)) → take (length handled) (frames a).contents ≡ handled → take (length handled) (frames (a ++ b)).contents ≡ handled
first_stays stays a b handled first =
    sym (take-take (length handled) (length (frames a).contents) (frames (a ++ b)).contents (first_within _ handled first))
    ∙ ap (take (length handled)) (stays a b) ∙ first

-- where all contents were handled, they are the contents
pub all_handled : (contents handled : List (List ℕ)) → take (length handled) contents ≡ handled → length contents ≡ length handled → contents ≡ handled
all_handled contents handled first all =
    let short : length contents ≤ length handled = omega (arith, all) in
    sym (take_all (length handled) contents short) ∙ first

-- the answers to the content in turn, which its reaction asked for, were wanted
pub next_wanted : (options : Options) (w0 w : Option Traffic) (a0 a : Option (List Entry)) (s : State) (content : List ℕ) (standing standing' : Standing) (size : ℕ) (asking : Asking Reply) (added : List Entry) →
    Gave content standing standing' → after_all (asks s content) added ≡ Some asking → (going : Going options w0 w a0 a s standing size) →
    EachWanted options going.taken (going.answers ++ added)
next_wanted options w0 w a0 a s content standing standing' size asking added gave reached going =
    let next = gave going.taken (length going.handled) going.follows in
    wanted_next options going.taken going.handled content s going.answers added going.out
    (first_more (frames going.taken).contents going.handled content going.first next.0) going.played
    (reached_wants s content asking added reached) going.did.wanted

-- the content in turn was interrupted
pub interrupted_at : (options : Options) (w0 w : Option Traffic) (a0 a : Option (List Entry)) (s : State) (content : List ℕ) (standing standing' : Standing) (size : ℕ) (asking : Asking Reply) (added : List Entry) →
    Gave content standing standing' → after_all (asks s content) added ≡ Some asking → (going : Going options w0 w a0 a s standing size) →
    IsInterrupted options going.taken (going.answers ++ added) going.out
interrupted_at options w0 w a0 a s content standing standing' size asking added gave reached going =
    let contents = (frames going.taken).contents in
    let next = gave going.taken (length going.handled) going.follows in
    interrupted options going.taken going.handled s going.answers added going.out going.first going.played
    (left_to s contents going.handled content added asking (first_more contents going.handled content going.first next.0) reached)

-- one more content was handled, and its reply was written
pub going_turns : (options : Options) (w0 w w' : Option Traffic) (a0 a a' : Option (List Entry)) (s s' : State) (content : List ℕ) (standing standing' : Standing) (size : ℕ) →
    Gave content standing standing' → Wrote s content s' None w w' a a' →
    Going options w0 w a0 a s standing size → Going options w0 w' a0 a' s' standing' size
going_turns options w0 w w' a0 a a' s s' content standing standing' size gave wrote going =
    let next = gave going.taken (length going.handled) going.follows in
    record {
      taken = going.taken;
      handled = going.handled ++ content ∷ [];
      out = going.out ++ wrote.bytes;
      moments = going.moments;
      answers = going.answers ++ wrote.handled.added;
      did = moves_writing options going.taken going.out wrote.bytes going.moments going.answers wrote.handled.added w0 w w' a0 a a' going.did wrote.told wrote.handled.answered
          (next_wanted options w0 w a0 a s content standing standing' size _ wrote.handled.added gave wrote.handled.follows going);
      follows = subst (λ n. Follows going.taken n standing') (sym (one_longer going.handled content)) next.1;
      first = first_more (frames going.taken).contents going.handled content going.first next.0;
      played = play_one_more going.handled content (fresh options) s s' going.answers wrote.handled.added going.out wrote.bytes None going.played
          (handled_reacts s s' content wrote.bytes None wrote.handled.added wrote.handled.follows);
      sized = going.sized;
    }

-- each whole frame was handled, and what stands isn't faulty
pub going_settles : (options : Options) (w0 w : Option Traffic) (a0 a : Option (List Entry)) (s : State) (standing standing' : Standing) (size : ℕ) →
    ((fed : List ℕ) (given : ℕ) → Follows fed given standing → (length (frames fed).contents ≡ given) × IsEmptyOrOpen (frames fed).rest) →
    standing' ≡ standing →
    Going options w0 w a0 a s standing size → Settled options w0 w a0 a s standing' size
going_settles options w0 w a0 a s standing standing' size stands same going =
    let at_end = stands going.taken (length going.handled) going.follows in
    record {
      going = record {
        taken = going.taken;
        handled = going.handled;
        out = going.out;
        moments = going.moments;
        answers = going.answers;
        did = going.did;
        follows = subst (λ (st : Standing). Follows going.taken (length going.handled) st) (sym same) going.follows;
        first = going.first;
        played = going.played;
        sized = going.sized;
      };
      all = at_end.0;
      sound = at_end.1;
    }

-- the play of all that was taken, where each whole frame was handled
pub settled_played : (options : Options) (w0 w : Option Traffic) (a0 a : Option (List Entry)) (s : State) (standing : Standing) (size : ℕ) →
    (settled : Settled options w0 w a0 a s standing size) →
    played options settled.going.taken settled.going.answers ≡ through settled.going.out settled.going.answers s
unfolding played
settled_played options w0 w a0 a s standing size settled =
    let going = settled.going in
    ap (λ (cs : List (List ℕ)). play cs (fresh options) going.answers) (all_handled (frames going.taken).contents going.handled going.first settled.all) ∙ going.played

-- the moment before a read that took bytes is prompt
settled_moves : ContentsStay → (options : Options) (w0 w w' : Option Traffic) (a0 a : Option (List Entry)) (s : State) (standing : Standing) (size : ℕ) (b : ℕ) (bs : List ℕ) →
    w' ≡ option_map (after_read (b ∷ bs)) w → IfSome w (λ t. take (length (b ∷ bs)) t.left ≡ b ∷ bs) → length (b ∷ bs) ≤ most_read →
    (settled : Settled options w0 w a0 a s standing size) →
    Moves options (settled.going.taken ++ b ∷ bs) settled.going.out (settled.going.moments ++ moment_at settled.going.taken settled.going.out ∷ []) settled.going.answers w0 w' a0 a
settled_moves stays options w0 w w' a0 a s standing size b bs read next small settled =
    let going = settled.going in
    let same : take (length going.taken) (going.taken ++ b ∷ bs) ≡ going.taken = take-append_seam going.taken (b ∷ bs) in
    let whole : played options (take (length going.taken) (going.taken ++ b ∷ bs)) going.answers ≡ through going.out going.answers s =
    ap (λ (t : List ℕ). played options t going.answers) same ∙ settled_played options w0 w a0 a s standing size settled in
    let out_is : take (length going.out) going.out ≡ going.out = take_all (length going.out) going.out (omega arith) in
    let prompt : IsPrompt options (going.taken ++ b ∷ bs) going.out going.answers (moment_at going.taken going.out) = record {
      within = omega (arith, length-append going.taken (b ∷ bs));
      wrote = omega arith;
      output = ap (λ (p : Played). p.out) whole ∙ sym out_is;
      through = subst (λ (p : Played). IsThrough p.stop) (sym whole) tt;
      sound = subst (λ (t : List ℕ). IsEmptyOrOpen (frames t).rest) (sym same) settled.sound;
    } in
    moves_reading options going.taken going.out b bs going.moments going.answers w0 w w' a0 a going.did read next prompt
    (wanted_stays stays options going.taken (b ∷ bs) going.answers going.did.wanted) small

-- a read took bytes, which were fed to the reader of frames
pub settled_reads : ContentsStay → (options : Options) (w0 w w' : Option Traffic) (a0 a : Option (List Entry)) (s : State) (standing standing' : Standing) (size : ℕ) (bytes : List ℕ) →
    0 < length bytes → length bytes ≤ most_read → w' ≡ option_map (after_read bytes) w → IfSome w (λ t. take (length bytes) t.left ≡ bytes) →
    ((fed : List ℕ) (given : ℕ) → Follows fed given standing → Follows (fed ++ bytes) given standing') →
    Settled options w0 w a0 a s standing size → Going options w0 w' a0 a s standing' (size + length bytes)
settled_reads stays options w0 w w' a0 a s standing standing' size [] some small read next fed settled = absurd (omega arith)
settled_reads stays options w0 w w' a0 a s standing standing' size (b ∷ bs) some small read next fed settled =
    let going = settled.going in
    record {
      taken = going.taken ++ b ∷ bs;
      handled = going.handled;
      out = going.out;
      moments = going.moments ++ moment_at going.taken going.out ∷ [];
      answers = going.answers;
      did = settled_moves stays options w0 w w' a0 a s standing size b bs read next small settled;
      follows = fed going.taken (length going.handled) going.follows;
      first = first_stays stays going.taken (b ∷ bs) going.handled going.first;
      played = going.played;
      sized = length-append going.taken (b ∷ bs) ∙ ap (λ n. n + length (b ∷ bs)) going.sized;
    }

-- there was no memory for the bytes that a read took
pub settled_unfed : ContentsStay → (options : Options) (w0 w w' : Option Traffic) (a0 a : Option (List Entry)) (s : State) (standing : Standing) (size : ℕ) (bytes : List ℕ) →
    0 < length bytes → length bytes ≤ most_read → w' ≡ option_map (after_read bytes) w → IfSome w (λ t. take (length bytes) t.left ≡ bytes) →
    Settled options w0 w a0 a s standing size → Ended options NoMemory w0 w' a0 a
settled_unfed stays options w0 w w' a0 a s standing size [] some small read next settled = absurd (omega arith)
settled_unfed stays options w0 w w' a0 a s standing size (b ∷ bs) some small read next settled =
    let going = settled.going in
    record {
      taken = going.taken ++ b ∷ bs;
      out = going.out;
      moments = going.moments ++ moment_at going.taken going.out ∷ [];
      answers = going.answers;
      did = settled_moves stays options w0 w w' a0 a s standing size b bs read next small settled;
      usual = tt;
      outcome = whatever_left w0 options NoMemory (going.taken ++ b ∷ bs) going.out going.answers (λ left.
          interrupted_between options (going.taken ++ b ∷ bs) going.handled s going.answers going.out (first_stays stays going.taken (b ∷ bs) going.handled going.first) going.played);
    }

-- how many bytes were fed to the reader of frames
pub follows_size : (fed : List ℕ) (given : ℕ) (standing : Standing) → Follows fed given standing → standing.place + length standing.bytes ≡ length fed
follows_size fed given standing follows = sym (ap length follows.fed_is ∙ length-append follows.before standing.bytes ∙ ap (λ n. n + length standing.bytes) (sym follows.place_is))

pub settled_size : (options : Options) (w0 w : Option Traffic) (a0 a : Option (List Entry)) (s : State) (standing : Standing) (size : ℕ) →
    Settled options w0 w a0 a s standing size → standing.place + length standing.bytes ≡ size
settled_size options w0 w a0 a s standing size settled = follows_size _ _ standing settled.going.follows ∙ settled.going.sized

-- a call that begins
pub going_begins : (options : Options) (w : Option Traffic) (a : Option (List Entry)) (s : State) (standing : Standing) →
    Answered [] a a → Follows [] 0 standing → s ≡ fresh options → Going options w w a a s standing 0
going_begins options w a s standing answered follows is_fresh = record {
  taken = [];
  handled = [];
  out = [];
  moments = [];
  answers = [];
  did = moves_nothing options w a answered;
  follows = follows;
  first = refl;
  played = ap (λ (state : State). through [] [] state) (sym is_fresh);
  sized = refl;
}
