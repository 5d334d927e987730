-- How a call ends, by its status.
use Rattle.std.proofs.Common.{◌≡◌, ◌≤◌, ◌^◌, ◌==◌, ℕ, List, [], ◌∷◌, ◌++◌, take, drop, length, Bool, false, cond, Option, None, Some, option_map, IfSome, refl, sym, ap, subst, ◌∙◌, append-nil, append_assoc, arith, drop_of_length-le, length-drop}
use Rattle.std.proofs.lemmas.List.{take-append-drop}
use Rattle.std.specs.Prelude.{slice_get}
use Rattle.io_edges.specs.Store.{Entry}
use Rattle.io_edges.specs.Wire.{Traffic, after_write}
use Rattle.io_edges.specs.declared.ends.Mark.{Mark}
use Rattle.lsp_framing.specs.Frames.{Parted, Rest, Empty, Open, Bad, frames}
use Rattle.lsp_framing.specs.Standing.{Standing, Follows, IsEmptyOrOpen}
use Rattle.lsp_framing.specs.declared.FrameKind.{FrameKind}
use Rattle.lsp_framing.specs.declared.FrameKind.TheVariants.{Cut}
use Rattle.c11ls.specs.Ties.Going.{Going, Settled, Moves, Ended, Outcome, Plays, moved, through}
use Rattle.c11ls.specs.Plain.{Played, Plain, Exited, Lacks, Through, Verdict, Done, Unclean, Faulty, play, played, plain, plain_of, verdict_of, go_on}
use Rattle.c_session.specs.React.{Reaction, Replies, Wants, react}
use Rattle.c11ls.specs.Serve.{WouldGoOn, IsThrough, IsInterrupted, Begins}
use Rattle.project_conf.specs.declared.options.Options.{Options}
use Rattle.c_session.specs.State.{State, fresh}
use Rattle.c11ls.specs.Ties.Turn.{Wrote, WroteFront, WroteUnclean, GaveUp, Lacked}
use Rattle.c11ls.specs.declared.status.Status.{Status}
use Rattle.c11ls.specs.declared.status.Status.TheVariants as status
use Rattle.c11ls.proofs.Framing.{ContentsStay, BadStays}
use Rattle.c11ls.proofs.Reacting.{used_by, used_within, handled_reacts, failed_wants}
use Rattle.c11ls.proofs.Moving.{moves_writing}
use Rattle.c11ls.proofs.Playing.{play-append, play_one_more, play_one_wants, played_to, after_reply, then_play}
use Rattle.c11ls.proofs.Interrupting.{interrupted_between}
use Rattle.c11ls.proofs.Wanting.{split_at}
use Rattle.c11ls.proofs.GoingOn.{Gave, next_wanted, interrupted_at, whatever_left, first_more, first_stays, all_handled, settled_played}

-- an outcome at the end of the input
nothing_left : (w0 w : Option Traffic) (options : Options) (ended : Status) (taken out : List ℕ) (moments : List Mark) (answers : List Entry) →
    w ≡ option_map (moved taken out moments) w0 → IfSome w (λ t. t.left ≡ []) → Outcome options ended taken out answers [] →
    IfSome w0 (λ t. Outcome options ended taken out answers (drop (length taken) t.left))
nothing_left None w options ended taken out moments answers was at_end outcome = tt
nothing_left (Some t) w options ended taken out moments answers was at_end outcome =
    let none : drop (length taken) t.left ≡ [] = subst (λ (o : Option Traffic). IfSome o (λ t. t.left ≡ [])) was at_end in
    subst (λ (left : List ℕ). Outcome options ended taken out answers left) (sym none) outcome

-- the plain server by a play and by what stands behind the frames
plain_by : (options : Options) (bytes : List ℕ) (answers : List Entry) (p : Played) (rest : Rest) →
    played options bytes answers ≡ p → (frames bytes).rest ≡ rest → plain options bytes answers ≡ plain_of p rest (length bytes)
plain_by options bytes answers p rest plays stands =
    ap (λ (q : Played). plain_of q (frames bytes).rest (length bytes)) plays ∙ ap (λ (r : Rest). plain_of p r (length bytes)) stands

-- the frame in turn is faulty
pub ends_bad : BadStays → (options : Options) (w0 w : Option Traffic) (a0 a : Option (List Entry)) (s : State) (standing : Standing) (size place : ℕ) (kind : FrameKind) →
    ((fed : List ℕ) (given : ℕ) → Follows fed given standing → (length (frames fed).contents ≡ given) × ((frames fed).rest ≡ Bad place kind)) →
    Going options w0 w a0 a s standing size → Ended options (status.BadFrame place kind) w0 w a0 a
unfolding played
ends_bad stays options w0 w a0 a s standing size place kind stands going =
    let at_end = stands going.taken (length going.handled) going.follows in
    let all = all_handled (frames going.taken).contents going.handled going.first at_end.0 in
    record {
      taken = going.taken;
      out = going.out;
      moments = going.moments;
      answers = going.answers;
      did = going.did;
      usual = tt;
      outcome = whatever_left w0 options (status.BadFrame place kind) going.taken going.out going.answers (λ left.
          let same : frames (going.taken ++ left) ≡ frames going.taken = stays going.taken left place kind at_end.1 in
          plain_by options (going.taken ++ left) going.answers (through going.out going.answers s) (Bad place kind)
          (ap (λ (f : Parted). play f.contents (fresh options) going.answers) same ∙ ap (λ (cs : List (List ℕ)). play cs (fresh options) going.answers) all ∙ going.played)
          (ap (λ (f : Parted). f.rest) same ∙ at_end.1));
    }

nothing_written : (w : Option Traffic) → w ≡ option_map (after_write []) w
nothing_written None = refl
nothing_written (Some t) = ap (λ (written : List ℕ). Some (record { left = t.left; taken = t.taken; written = written; marks = t.marks })) (sym (append-nil t.written))

-- no reply was written to a content, for which memory was wanted
pub ends_giving_up : (options : Options) (w0 w w' : Option Traffic) (a0 a a' : Option (List Entry)) (s : State) (content : List ℕ) (standing standing' : Standing) (size : ℕ) →
    Gave content standing standing' → GaveUp s content w w' a a' → Going options w0 w a0 a s standing size → Ended options status.NoMemory w0 w' a0 a'
ends_giving_up options w0 w w' a0 a a' s content standing standing' size gave gave_up going =
    let reached = gave_up.gave_up.reached in
    record {
      taken = going.taken;
      out = going.out ++ [];
      moments = going.moments;
      answers = going.answers ++ reached.added;
      did = moves_writing options going.taken going.out [] going.moments going.answers reached.added w0 w w' a0 a a' going.did (gave_up.told ∙ nothing_written w) reached.answered
          (next_wanted options w0 w a0 a s content standing standing' size gave_up.gave_up.next reached.added gave reached.follows going);
      usual = tt;
      outcome = whatever_left w0 options status.NoMemory going.taken (going.out ++ []) (going.answers ++ reached.added) (λ left.
          subst (IsInterrupted options going.taken (going.answers ++ reached.added)) (sym (append-nil going.out))
          (interrupted_at options w0 w a0 a s content standing standing' size gave_up.gave_up.next reached.added gave reached.follows going));
    }

-- memory was wanted before the next content
pub ends_before : (options : Options) (w0 w : Option Traffic) (a0 a : Option (List Entry)) (s : State) (standing : Standing) (size : ℕ) →
    Going options w0 w a0 a s standing size → Ended options status.NoMemory w0 w a0 a
ends_before options w0 w a0 a s standing size going = record {
  taken = going.taken;
  out = going.out;
  moments = going.moments;
  answers = going.answers;
  did = going.did;
  usual = tt;
  outcome = whatever_left w0 options status.NoMemory going.taken going.out going.answers (λ left.
      interrupted_between options going.taken going.handled s going.answers going.out going.first going.played);
}

-- The plays of an input that begins with contents, of which the last ends the call or lacks an answer.
exits_early : (cs handled : List (List ℕ)) (s : State) (answers : List Entry) (out : List ℕ) (used end : ℕ) →
    take (length handled) cs ≡ handled → play handled s answers ≡ played_to out used (Exited end) → play cs s answers ≡ played_to out used (Exited end)
exits_early cs handled s answers out used end first plays =
    ap (λ (all : List (List ℕ)). play all s answers) (split_at cs handled first)
    ∙ play-append handled (drop (length handled) cs) s answers
    ∙ ap (λ (p : Played). then_play p.stop p answers (play (drop (length handled) cs))) plays

-- the contents of an input that goes on, where one more was given
next_first : ContentsStay → (taken left : List ℕ) (handled : List (List ℕ)) (content : List ℕ) →
    take (length handled) (frames taken).contents ≡ handled → slice_get (frames taken).contents (length handled) ≡ Some content →
    take (length (handled ++ content ∷ [])) (frames (taken ++ left)).contents ≡ handled ++ content ∷ []
next_first stays taken left handled content first next = first_stays stays taken left (handled ++ content ∷ []) (first_more (frames taken).contents handled content first next)

-- an `exit` was met, and its reply was written
pub exit_plays : ContentsStay → (options : Options) (w0 w w' : Option Traffic) (a0 a a' : Option (List Entry)) (s s' : State) (content : List ℕ) (standing standing' : Standing) (size end : ℕ) →
    Gave content standing standing' → (wrote : Wrote s content s' (Some end) w w' a a') → (going : Going options w0 w a0 a s standing size) → (left : List ℕ) →
    played options (going.taken ++ left) (going.answers ++ wrote.handled.added) ≡ played_to (going.out ++ wrote.bytes) (length (going.answers ++ wrote.handled.added)) (Exited end)
unfolding played
exit_plays stays options w0 w w' a0 a a' s s' content standing standing' size end gave wrote going left =
    let next = gave going.taken (length going.handled) going.follows in
    exits_early (frames (going.taken ++ left)).contents (going.handled ++ content ∷ []) (fresh options) (going.answers ++ wrote.handled.added)
    (going.out ++ wrote.bytes) (length (going.answers ++ wrote.handled.added)) end
    (next_first stays going.taken left going.handled content going.first next.0)
    (play_one_more going.handled content (fresh options) s s' going.answers wrote.handled.added going.out wrote.bytes (Some end) going.played
    (handled_reacts s s' content wrote.bytes (Some end) wrote.handled.added wrote.handled.follows))

pub ends_done : ContentsStay → (options : Options) (w0 w w' : Option Traffic) (a0 a a' : Option (List Entry)) (s s' : State) (content : List ℕ) (standing standing' : Standing) (size : ℕ) →
    Gave content standing standing' → Wrote s content s' (Some 0) w w' a a' → Going options w0 w a0 a s standing size → Ended options status.Done w0 w' a0 a'
ends_done stays options w0 w w' a0 a a' s s' content standing standing' size gave wrote going = record {
  taken = going.taken;
  out = going.out ++ wrote.bytes;
  moments = going.moments;
  answers = going.answers ++ wrote.handled.added;
  did = moves_writing options going.taken going.out wrote.bytes going.moments going.answers wrote.handled.added w0 w w' a0 a a' going.did wrote.told wrote.handled.answered
      (next_wanted options w0 w a0 a s content standing standing' size _ wrote.handled.added gave wrote.handled.follows going);
  usual = tt;
  outcome = whatever_left w0 options status.Done going.taken (going.out ++ wrote.bytes) (going.answers ++ wrote.handled.added) (λ left.
      plain_by options (going.taken ++ left) (going.answers ++ wrote.handled.added) _ _
      (exit_plays stays options w0 w w' a0 a a' s s' content standing standing' size 0 gave wrote going left) refl);
}

unclean_verdict : (end : ℕ) (rest : Rest) (size : ℕ) → (end == 0) ≡ false → verdict_of (Exited end) rest size ≡ Unclean
unclean_verdict end rest size unclean = ap (λ (b : Bool). cond b Done Unclean) unclean

pub ends_unclean : ContentsStay → (options : Options) (w0 w w' : Option Traffic) (a0 a a' : Option (List Entry)) (s s' : State) (content : List ℕ) (standing standing' : Standing) (size : ℕ) →
    Gave content standing standing' → WroteUnclean s content s' w w' a a' → Going options w0 w a0 a s standing size → Ended options status.Unclean w0 w' a0 a'
ends_unclean stays options w0 w w' a0 a a' s s' content standing standing' size gave ended going =
    let wrote = ended.wrote in
    record {
      taken = going.taken;
      out = going.out ++ wrote.bytes;
      moments = going.moments;
      answers = going.answers ++ wrote.handled.added;
      did = moves_writing options going.taken going.out wrote.bytes going.moments going.answers wrote.handled.added w0 w w' a0 a a' going.did wrote.told wrote.handled.answered
          (next_wanted options w0 w a0 a s content standing standing' size _ wrote.handled.added gave wrote.handled.follows going);
      usual = tt;
      outcome = whatever_left w0 options status.Unclean going.taken (going.out ++ wrote.bytes) (going.answers ++ wrote.handled.added) (λ left.
          plain_by options (going.taken ++ left) (going.answers ++ wrote.handled.added) _ _
          (exit_plays stays options w0 w w' a0 a a' s s' content standing standing' size ended.end gave wrote going left) refl
          ∙ ap (λ (verdict : Verdict). record { out = going.out ++ wrote.bytes; used = length (going.answers ++ wrote.handled.added); verdict = verdict })
          (unclean_verdict ended.end (frames (going.taken ++ left)).rest (length (going.taken ++ left)) ended.unclean));
    }

-- the store failed at a call that the content in turn wants
pub ends_lacking : (options : Options) (w0 w w' : Option Traffic) (a0 a a' : Option (List Entry)) (s : State) (content : List ℕ) (standing standing' : Standing) (size : ℕ) →
    Gave content standing standing' → Lacked s content w w' a a' → Going options w0 w a0 a s standing size → Ended options status.StoreFault w0 w' a0 a'
unfolding played
ends_lacking options w0 w w' a0 a a' s content standing standing' size gave lacked going =
    let failed = lacked.failed in
    let added = failed.reached.added in
    let next = gave going.taken (length going.handled) going.follows in
    let contents = (frames going.taken).contents in
    let longer = going.handled ++ content ∷ [] in
    let behind_it = drop (length longer) contents in
    let plays : played options going.taken (going.answers ++ added) ≡ played_to going.out (length going.answers) (Lacks failed.call) =
    ap (λ (all : List (List ℕ)). play all (fresh options) (going.answers ++ added))
    (split_at contents longer (first_more contents going.handled content going.first next.0) ∙ append_assoc going.handled (content ∷ []) behind_it)
    ∙ play_one_wants going.handled content behind_it (fresh options) s failed.call going.answers added going.out going.played
    (failed_wants s content failed.next added failed.call failed.reached.follows failed.asked) in
    let is = plain_by options going.taken (going.answers ++ added) _ _ plays refl in
    record {
      taken = going.taken;
      out = going.out ++ [];
      moments = going.moments;
      answers = going.answers ++ added;
      did = moves_writing options going.taken going.out [] going.moments going.answers added w0 w w' a0 a a' going.did (lacked.told ∙ nothing_written w) failed.reached.answered
          (next_wanted options w0 w a0 a s content standing standing' size failed.next added gave failed.reached.follows going);
      usual = tt;
      outcome = whatever_left w0 options status.StoreFault going.taken (going.out ++ []) (going.answers ++ added) (λ left. (
        ap (λ (p : Plain). p.out) is ∙ sym (append-nil going.out),
        subst (IsInterrupted options going.taken (going.answers ++ added)) (sym (append-nil going.out))
            (interrupted_at options w0 w a0 a s content standing standing' size failed.next added gave failed.reached.follows going),
        ap (λ (p : Plain). p.verdict) is,
      ));
    }

-- no more answers are used than there are
reply_used_in : (s : State) (content bytes : List ℕ) (s' : State) (end : Option ℕ) (used : ℕ) (answers : List Entry) (cs : List (List ℕ)) →
    react s content answers ≡ Replies s' bytes end used → ((next : State) (left : List Entry) → (play cs next left).used ≤ length left) →
    (go_on (Replies s' bytes end used) answers (play cs)).used ≤ length answers
reply_used_in s content bytes s' (Some status) used answers cs is further = subst (λ (r : Reaction). used_by r ≤ length answers) is (used_within s content answers)
reply_used_in s content bytes s' None used answers cs is further =
    let within : used ≤ length answers = subst (λ (r : Reaction). used_by r ≤ length answers) is (used_within s content answers) in
    let rest : (play cs s' (drop used answers)).used ≤ length (drop used answers) = further s' (drop used answers) in
    omega (arith, within, rest, length-drop used answers)

go_on_used_in : (s : State) (content : List ℕ) (answers : List Entry) (cs : List (List ℕ)) (r : Reaction) → react s content answers ≡ r →
    ((next : State) (left : List Entry) → (play cs next left).used ≤ length left) → (go_on r answers (play cs)).used ≤ length answers
go_on_used_in s content answers cs (Wants call) is further = omega arith
go_on_used_in s content answers cs (Replies s' bytes end used) is further = reply_used_in s content bytes s' end used answers cs is further

pub play_used_in : (cs : List (List ℕ)) (s : State) (answers : List Entry) → (play cs s answers).used ≤ length answers
play_used_in [] s answers = omega arith
play_used_in (c ∷ cs) s answers = go_on_used_in s c answers cs (react s c answers) refl (play_used_in cs)

-- a front of a reply stands in what the plain server writes, whose answers are all used by then
begins_reply : (s : State) (bytes : List ℕ) (end : Option ℕ) (out : List ℕ) (answers : List Entry) (ds : List (List ℕ)) (size : ℕ) →
    Begins (out ++ take size bytes) (then_play (after_reply s bytes end out (length answers)).stop (after_reply s bytes end out (length answers)) answers (play ds)).out
    × ((then_play (after_reply s bytes end out (length answers)).stop (after_reply s bytes end out (length answers)) answers (play ds)).used ≡ length answers)
begins_reply s bytes (Some status) out answers ds size =
    ((drop size bytes, ap (λ (b : List ℕ). out ++ b) (sym (take-append-drop size bytes)) ∙ sym (append_assoc out (take size bytes) (drop size bytes))), refl)
begins_reply s bytes None out answers ds size =
    let rest = play ds s (drop (length answers) answers) in
    let none : drop (length answers) answers ≡ [] = drop_of_length-le answers (omega arith) in
    let unused : rest.used ≤ length (drop (length answers) answers) = play_used_in ds s (drop (length answers) answers) in (
      (
        drop size bytes ++ rest.out,
        ap (λ (b : List ℕ). (out ++ b) ++ rest.out) (sym (take-append-drop size bytes))
            ∙ ap (λ (b : List ℕ). b ++ rest.out) (sym (append_assoc out (take size bytes) (drop size bytes)))
            ∙ append_assoc (out ++ take size bytes) (drop size bytes) rest.out,
      ),
      omega (arith, unused, ap length none),
    )

-- the sink failed while a reply was written
pub ends_unwritten : ContentsStay → (options : Options) (w0 w w' : Option Traffic) (a0 a a' : Option (List Entry)) (s : State) (content : List ℕ) (standing standing' : Standing) (size : ℕ) →
    Gave content standing standing' → WroteFront s content w w' a a' → Going options w0 w a0 a s standing size → Ended options status.WriteFault w0 w' a0 a'
unfolding played
ends_unwritten stays options w0 w w' a0 a a' s content standing standing' size gave wrote going =
    let next = gave going.taken (length going.handled) going.follows in
    let answers = going.answers ++ wrote.handled.added in
    let longer = going.handled ++ content ∷ [] in
    let one = play_one_more going.handled content (fresh options) s wrote.state going.answers wrote.handled.added going.out wrote.bytes wrote.end going.played
    (handled_reacts s wrote.state content wrote.bytes wrote.end wrote.handled.added wrote.handled.follows) in
    record {
      taken = going.taken;
      out = going.out ++ take wrote.sent.size wrote.bytes;
      moments = going.moments;
      answers = answers;
      did = moves_writing options going.taken going.out (take wrote.sent.size wrote.bytes) going.moments going.answers wrote.handled.added w0 w w' a0 a a' going.did wrote.sent.told wrote.handled.answered
          (next_wanted options w0 w a0 a s content standing standing' size _ wrote.handled.added gave wrote.handled.follows going);
      usual = tt;
      outcome = whatever_left w0 options status.WriteFault going.taken (going.out ++ take wrote.sent.size wrote.bytes) answers (λ left.
          let contents = (frames (going.taken ++ left)).contents in
          let behind_it = drop (length longer) contents in
          let plays : play contents (fresh options) answers ≡ then_play (after_reply wrote.state wrote.bytes wrote.end going.out (length answers)).stop
          (after_reply wrote.state wrote.bytes wrote.end going.out (length answers)) answers (play behind_it) =
          ap (λ (all : List (List ℕ)). play all (fresh options) answers) (split_at contents longer (next_first stays going.taken left going.handled content going.first next.0))
          ∙ play-append longer behind_it (fresh options) answers
          ∙ ap (λ (p : Played). then_play p.stop p answers (play behind_it)) one in
          let is = begins_reply wrote.state wrote.bytes wrote.end going.out answers behind_it wrote.sent.size in
          subst (λ (p : Played). Begins (going.out ++ take wrote.sent.size wrote.bytes) p.out × (p.used ≡ length answers)) (sym plays) is);
    }

-- the verdict that the plain server gives on what was taken, where each whole frame was handled
settled_plays : (options : Options) (w0 w : Option Traffic) (a0 a : Option (List Entry)) (s : State) (standing : Standing) (size : ℕ) (rest : Rest) →
    (settled : Settled options w0 w a0 a s standing size) → (frames settled.going.taken).rest ≡ rest →
    Plays options settled.going.taken settled.going.answers settled.going.out (verdict_of (Through s) rest (length settled.going.taken))
settled_plays options w0 w a0 a s standing size rest settled is =
    plain_by options settled.going.taken settled.going.answers _ rest (settled_played options w0 w a0 a s standing size settled) is

would_go_on : (options : Options) (w0 w : Option Traffic) (a0 a : Option (List Entry)) (s : State) (standing : Standing) (size : ℕ) →
    (settled : Settled options w0 w a0 a s standing size) → WouldGoOn options settled.going.taken settled.going.answers
would_go_on options w0 w a0 a s standing size settled = record {
  through = subst (λ (p : Played). IsThrough p.stop) (sym (settled_played options w0 w a0 a s standing size settled)) tt;
  sound = settled.sound;
}

-- the source failed
pub ends_unread : (options : Options) (w0 w w' : Option Traffic) (a0 a : Option (List Entry)) (s : State) (standing : Standing) (size : ℕ) →
    w' ≡ w → Settled options w0 w a0 a s standing size → Ended options status.ReadFault w0 w' a0 a
ends_unread options w0 w w' a0 a s standing size still settled =
    let going = settled.going in
    record {
      taken = going.taken;
      out = going.out;
      moments = going.moments;
      answers = going.answers;
      did = record { moves = still ∙ going.did.moves; front = going.did.front; answered = going.did.answered; prompt = going.did.prompt; wanted = going.did.wanted; portions = going.did.portions };
      usual = tt;
      outcome = whatever_left w0 options status.ReadFault going.taken going.out going.answers (λ left. (would_go_on options w0 w a0 a s standing size settled, (_, settled_plays options w0 w a0 a s standing size _ settled refl)));
    }

-- enough bytes were taken
pub ends_long : (options : Options) (w0 w : Option Traffic) (a0 a : Option (List Entry)) (s : State) (standing : Standing) (size : ℕ) →
    2 ^ 62 ≤ size → Settled options w0 w a0 a s standing size → Ended options status.LongInput w0 w a0 a
ends_long options w0 w a0 a s standing size long settled =
    let going = settled.going in
    record {
      taken = going.taken;
      out = going.out;
      moments = going.moments;
      answers = going.answers;
      did = going.did;
      usual = tt;
      outcome = whatever_left w0 options status.LongInput going.taken going.out going.answers (λ left.
          (subst (λ n. 2 ^ 62 ≤ n) (sym going.sized) long, would_go_on options w0 w a0 a s standing size settled, (_, settled_plays options w0 w a0 a s standing size _ settled refl)));
    }

same_wire : (options : Options) (taken out : List ℕ) (moments : List Mark) (answers : List Entry) (w0 w w' : Option Traffic) (a0 a : Option (List Entry)) →
    w' ≡ w → Moves options taken out moments answers w0 w a0 a → Moves options taken out moments answers w0 w' a0 a
same_wire options taken out moments answers w0 w w' a0 a still did = record { moves = still ∙ did.moves; front = did.front; answered = did.answered; prompt = did.prompt; wanted = did.wanted; portions = did.portions }

-- the input ended, and nothing stands
pub ends_empty : (options : Options) (w0 w w' : Option Traffic) (a0 a : Option (List Entry)) (s : State) (standing : Standing) (size : ℕ) →
    w' ≡ w → IfSome w (λ t. t.left ≡ []) →
    ((fed : List ℕ) (given : ℕ) → Follows fed given standing → (frames fed).rest ≡ Empty) →
    Settled options w0 w a0 a s standing size → Ended options status.Unclean w0 w' a0 a
ends_empty options w0 w w' a0 a s standing size still at_end stands settled =
    let going = settled.going in
    let is = settled_plays options w0 w a0 a s standing size Empty settled (stands going.taken (length going.handled) going.follows) in
    record {
      taken = going.taken;
      out = going.out;
      moments = going.moments;
      answers = going.answers;
      did = same_wire options going.taken going.out going.moments going.answers w0 w w' a0 a still going.did;
      usual = tt;
      outcome = nothing_left w0 w options status.Unclean going.taken going.out going.moments going.answers going.did.moves at_end
          (subst (λ (bytes : List ℕ). Plays options bytes going.answers going.out Unclean) (sym (append-nil going.taken)) is);
    }

open_rest : (rest : Rest) → IsEmptyOrOpen rest → (rest ≡ Empty → ⊥) → rest ≡ Open
open_rest Empty sound nonempty = absurd (nonempty refl)
open_rest Open sound nonempty = refl
open_rest (Bad place kind) sound nonempty = absurd sound

-- the input ended inside a frame
pub ends_cut : (options : Options) (w0 w w' : Option Traffic) (a0 a : Option (List Entry)) (s : State) (standing : Standing) (size : ℕ) →
    w' ≡ w → IfSome w (λ t. t.left ≡ []) →
    ((fed : List ℕ) (given : ℕ) → Follows fed given standing → length (frames fed).contents ≡ given → (frames fed).rest ≡ Empty → ⊥) →
    Settled options w0 w a0 a s standing size → Ended options (status.BadFrame size Cut) w0 w' a0 a
ends_cut options w0 w w' a0 a s standing size still at_end stands settled =
    let going = settled.going in
    let rest_is : (frames going.taken).rest ≡ Open = open_rest (frames going.taken).rest settled.sound (stands going.taken (length going.handled) going.follows settled.all) in
    let is : Plays options going.taken going.answers going.out (Faulty size Cut) =
    settled_plays options w0 w a0 a s standing size Open settled rest_is
    ∙ ap (λ n. record { out = going.out; used = length going.answers; verdict = Faulty n Cut }) going.sized in
    record {
      taken = going.taken;
      out = going.out;
      moments = going.moments;
      answers = going.answers;
      did = same_wire options going.taken going.out going.moments going.answers w0 w w' a0 a still going.did;
      usual = tt;
      outcome = nothing_left w0 w options (status.BadFrame size Cut) going.taken going.out going.moments going.answers going.did.moves at_end
          (subst (λ (bytes : List ℕ). Plays options bytes going.answers going.out (Faulty size Cut)) (sym (append-nil going.taken)) is);
    }
