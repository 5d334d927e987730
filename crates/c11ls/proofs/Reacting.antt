-- Laws of the reaction to one content.
use Rattle.std.proofs.Common.{◌≡◌, ◌≤◌, ℕ, List, [], ◌∷◌, ◌++◌, length, Bool, true, false, cond, Option, None, Some, option_and_then, option_map, is_some, T, refl, sym, ap, subst, ◌∙◌, append-nil, bytes_eq, add-zero, arith}
use Rattle.std.proofs.lemmas.Slice.Eq.{bytes_eq-Decides}
use Rattle.io_edges.specs.Store.{Call, Entry, Lists, Reads, ListCall, ReadCall, call_of}
use Rattle.asking.specs.Asking.{Asks}
use Rattle.asking.specs.InTurn as turns
use Rattle.asking.specs.InTurn.{Turn, after_one, run}
use Rattle.asking.proofs.InTurn.{run_goes_on, run_stays}
use Rattle.c_session.specs.Asking.{Asking, Gives, answer_in, calls, after_all, next_call}
use Rattle.c_session.specs.Handled.{Answered, outcome}
use Rattle.c_session.specs.React.{Outcome, Reaction, Replies, Wants, reaction, asks, react}
use Rattle.c_session.specs.State.{State}

-- a store that wasn't asked answered nothing
pub nothing_answered : (told : Option (List Entry)) → Answered [] told told
nothing_answered None = refl
nothing_answered (Some told) = ap Some (sym (append-nil told))

-- how many answers a reaction used
abbrev pub used_by : Reaction → ℕ
used_by (Replies s bytes end used) = used
used_by (Wants call) = 0

used_of : (asking : Asking Outcome) (answers : List Entry) (turn : Turn calls Outcome) → run asking answers ≡ turn → used_by (reaction turn) ≤ length answers
used_of asking answers (turns.Gave o used) e = (run_stays asking answers [] o used e).0
used_of asking answers (turns.Wants call) e = omega arith
used_of asking answers (turns.Differs call entry) e = omega arith

-- no more answers are used than there are
pub used_within : (s : State) (content : List ℕ) (answers : List Entry) → used_by (react s content answers) ≤ length answers
unfolding react
used_within s content answers = used_of (asks s content) answers (run (asks s content) answers) refl

-- a reaction that is no wish
abbrev IsReply : Reaction → Type 0
IsReply (Replies s bytes end used) = Unit {0}
IsReply (Wants call) = ⊥

stays_by : (asking : Asking Outcome) (answers more : List Entry) (turn : Turn calls Outcome) → run asking answers ≡ turn → IsReply (reaction turn) → run asking (answers ++ more) ≡ turn
stays_by asking answers more (turns.Gave o used) e is = (run_stays asking answers more o used e).1
stays_by asking answers more (turns.Wants call) e is = absurd is
stays_by asking answers more (turns.Differs call entry) e is = absurd is

-- further answers change no reply
pub reply_stays : (s s' : State) (content bytes : List ℕ) (end : Option ℕ) (used : ℕ) (answers more : List Entry) →
    react s content answers ≡ Replies s' bytes end used → react s content (answers ++ more) ≡ Replies s' bytes end used
unfolding react
reply_stays s s' content bytes end used answers more replies =
    ap reaction (stays_by (asks s content) answers more (run (asks s content) answers) refl (subst IsReply (sym replies) tt)) ∙ replies

-- ---- answers that were asked for in turn

not_some : {A B : Type 0} (x : A) → None ≡ Some x → B
not_some x e = absurd (subst (λ o. T (is_some o)) (sym e) tt)

some_is : {A : Type 0} (x y : A) → Some x ≡ Some y → x ≡ y
some_is x y same = cc

run_wants : (asking : Asking Outcome) (call : Call) → next_call asking ≡ Some call → run asking [] ≡ turns.Wants call
run_wants (Gives o) call e = not_some call e
run_wants (Asks first questions f) call e = ap turns.Wants (some_is first call e)

asked_for : (asking next : Asking Outcome) (added : List Entry) (call : Call) → after_all asking added ≡ Some next → next_call next ≡ Some call → reaction (run asking added) ≡ Wants call
asked_for asking next added call e wants =
    ap (λ entries. reaction (run asking entries)) (sym (append-nil added)) ∙ ap reaction (run_goes_on asking next added [] e ∙ ap (turns.further (length added)) (run_wants next call wants))

-- an answer that was reached is one to the call that is asked
is_same : (xs ys : List ℕ) → bytes_eq xs ys ≡ true → xs ≡ ys
is_same xs ys same = (bytes_eq-Decides xs ys).0 same

asked_if : (b : Bool) (xs ys : List ℕ) (to_call : List ℕ → Call) {F : Type 0} (found : F) → (b ≡ true → xs ≡ ys) →
    is_some (cond b (Some found) None) ≡ true → Some (to_call xs) ≡ Some (to_call ys)
asked_if true xs ys to_call found same e = ap (λ zs. Some (to_call zs)) (same refl)
asked_if false xs ys to_call found same e = absurd (subst T (sym e) tt)

-- an entry that is an answer to a call is one to that call
answer_asked : (call : Call) (entry : Entry) → is_some (answer_in call entry) ≡ true → Some call ≡ Some (call_of entry)
answer_asked (ListCall root) (Lists listed found) e = asked_if (bytes_eq root listed) root listed ListCall found (is_same root listed) e
answer_asked (ListCall root) (Reads read found) e = absurd (subst T (sym e) tt)
answer_asked (ReadCall path) (Lists listed found) e = absurd (subst T (sym e) tt)
answer_asked (ReadCall path) (Reads read found) e = asked_if (bytes_eq path read) path read ReadCall found (is_same path read) e

some_mapped : {A B : Type 0} (f : A → B) (o : Option A) (x : B) → option_map f o ≡ Some x → is_some o ≡ true
some_mapped f None x e = not_some x e
some_mapped f (Some a) x e = refl

answers_asked : (asking next : Asking Outcome) (entry : Entry) → after_one asking entry ≡ Some next → next_call asking ≡ Some (call_of entry)
answers_asked (Gives o) next entry e = not_some next e
answers_asked (Asks call questions f) next entry e = answer_asked call entry (some_mapped _ (answer_in call entry) next e)

-- what is asked between two answers
record Between (asking : Asking Outcome) (before : List Entry) (entry : Entry) : Type 0 where
  middle : Asking Outcome
  reached : after_all asking before ≡ Some middle
  asked : next_call middle ≡ Some (call_of entry)

first_of : (asking next : Asking Outcome) (o : Option (Asking Outcome)) (entry : Entry) (behind : List Entry) →
    after_one asking entry ≡ o → option_and_then (λ t. after_all t behind) o ≡ Some next → Between asking [] entry
first_of asking next None entry behind is e = not_some next e
first_of asking next (Some middle) entry behind is e = record { middle = asking; reached = refl; asked = answers_asked asking middle entry is }

between_at : (asking next : Asking Outcome) (o : Option (Asking Outcome)) (first : Entry) (before : List Entry) (entry : Entry) (behind : List Entry) →
    after_one asking first ≡ o → ((middle : Asking Outcome) → after_all middle (before ++ entry ∷ behind) ≡ Some next → Between middle before entry) →
    option_and_then (λ t. after_all t (before ++ entry ∷ behind)) o ≡ Some next → Between asking (first ∷ before) entry
between_at asking next None first before entry behind is inner e = not_some next e
between_at asking next (Some middle) first before entry behind is inner e =
    let found = inner middle e in
    record { middle = found.middle; reached = ap (option_and_then (λ t. after_all t before)) is ∙ found.reached; asked = found.asked }

between : (asking next : Asking Outcome) (before : List Entry) (entry : Entry) (behind : List Entry) → after_all asking (before ++ entry ∷ behind) ≡ Some next → Between asking before entry
between asking next [] entry behind e = first_of asking next (after_one asking entry) entry behind refl e
between asking next (first ∷ before) entry behind e =
    between_at asking next (after_one asking first) first before entry behind refl (λ middle. between middle next before entry behind) e

-- ---- what was reached

-- what was handled is the reaction, which used all answers that the store gave
pub handled_reacts : (s s' : State) (content bytes : List ℕ) (end : Option ℕ) (added : List Entry) →
    after_all (asks s content) added ≡ Some (Gives (outcome s' bytes end)) → react s content added ≡ Replies s' bytes end (length added)
unfolding react
handled_reacts s s' content bytes end added e =
    ap (λ entries. reaction (run (asks s content) entries)) (sym (append-nil added)) ∙
    ap reaction (run_goes_on (asks s content) (Gives (outcome s' bytes end)) added [] e) ∙ ap (Replies s' bytes end) (add-zero (length added))

-- the call that the reaction wants behind what was reached
pub failed_wants : (s : State) (content : List ℕ) (next : Asking Outcome) (added : List Entry) (call : Call) →
    after_all (asks s content) added ≡ Some next → next_call next ≡ Some call → react s content added ≡ Wants call
unfolding react
failed_wants s content next added call e wants = asked_for (asks s content) next added call e wants

-- the reaction wants each answer that was reached, with those before it
abbrev pub EachAsked : State → List ℕ → List Entry → Type 0
EachAsked s content added = (before : List Entry) (entry : Entry) (behind : List Entry) → added ≡ before ++ entry ∷ behind → react s content before ≡ Wants (call_of entry)

pub reached_wants : (s : State) (content : List ℕ) (next : Asking Outcome) (added : List Entry) → after_all (asks s content) added ≡ Some next → EachAsked s content added
unfolding react
reached_wants s content next added e before entry behind split =
    let found = between (asks s content) next before entry behind (ap (after_all (asks s content)) (sym split) ∙ e) in
    asked_for (asks s content) found.middle before (call_of entry) found.reached found.asked
