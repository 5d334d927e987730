-- Laws of what asks the store.
use Rattle.std.proofs.Common.{◌≡◌, ◌<◌, ℕ, List, [], ◌∷◌, ◌++◌, Option, None, Some, option_and_then, option_map, true, cond, is_some, T, refl, sym, ap, ◌∙◌, subst, append-nil, append_assoc, bytes_eq}
use Rattle.std.proofs.lemmas.Slice.Eq.{bytes_eq-Decides}
use Rattle.io_edges.specs.Store.{Call, Entry, Lists, Reads, ReadCall, after_answer}
use Rattle.io_edges.specs.declared.ends.Listed.{Listed}
use Rattle.io_edges.specs.declared.ends.Found.{Found}
use Rattle.asking.specs.Asking.{Asks}
use Rattle.asking.proofs.InTurn.{after_append, then_answered}
use Rattle.c_session.specs.Asking.{Asking, Gives, calls, asks_list, asks_read, and_then, after_all, next_call}
use Rattle.c_session.specs.Handled.{Answered, Reached}
use Rattle.c_session.specs.Ties.Interrupted.{GaveUp, IsFault, Refused}
use Rattle.c_session.specs.declared.error.SessionError.{SessionError}
use Rattle.c_session.specs.declared.error.SessionError.TheVariants.{StoreFault, NoMemory}

pub bytes_same : (xs : List ℕ) → bytes_eq xs xs ≡ true
bytes_same xs = (bytes_eq-Decides xs xs).1 refl

not_some : {A B : Type 0} (x : A) → None ≡ Some x → B
not_some x e = absurd (subst (λ o. T (is_some o)) (sym e) tt)

-- ---- what was reached

answers_joined : (xs ys : List Entry) (old middle new : Option (List Entry)) → Answered xs old middle → Answered ys middle new → Answered (xs ++ ys) old new
answers_joined xs ys None middle new p q = q ∙ ap (option_map (λ told. told ++ ys)) p
answers_joined xs ys (Some told) middle new p q = q ∙ ap (option_map (λ told. told ++ ys)) p ∙ ap Some (append_assoc told xs ys)

pub nothing_answered : (told : Option (List Entry)) → Answered [] told told
nothing_answered None = refl
nothing_answered (Some told) = ap Some (sym (append-nil told))

-- nothing was asked
pub stays : {A : Type 0} (t : Asking A) (told : Option (List Entry)) → Reached t t told told
stays t told = record { added = []; answered = nothing_answered told; follows = refl }

pub stays_at : {A : Type 0} (t : Asking A) (old new : Option (List Entry)) → new ≡ old → Reached t t old new
stays_at t old new same = subst (λ told. Reached t t old told) (sym same) (stays t old)

-- what is asked is the same
pub reached_same : {A : Type 0} (t t' : Asking A) (told : Option (List Entry)) → t ≡ t' → Reached t t' told told
reached_same t t' told same = subst (λ x. Reached t x told told) same (stays t told)

pub goes_on : {A : Type 0} {t middle next : Asking A} {old between new : Option (List Entry)} → Reached t middle old between → Reached middle next between new → Reached t next old new
goes_on {t = t} {middle = middle} {next = next} {old = old} {between = between} {new = new} r s = record {
  added = r.added ++ s.added;
  answered = answers_joined r.added s.added old between new r.answered s.answered;
  follows = after_append t middle r.added s.added r.follows ∙ s.follows;
}

pub goes_then : {A B : Type 0} (t next : Asking A) (old new : Option (List Entry)) (k : A → Asking B) → Reached t next old new → Reached (and_then t k) (and_then next k) old new
goes_then t next old new k r = record { added = r.added; answered = r.answered; follows = then_answered t next k r.added r.follows }

-- the store answered what was asked
pub was_read : {A : Type 0} (path : List ℕ) (f : Found → Asking A) (found : Found) (old new : Option (List Entry)) →
    new ≡ option_map (after_answer (Reads path found)) old → Reached (asks_read path f) (f found) old new
was_read path f found old new is = record {
  added = Reads path found ∷ [];
  answered = is;
  follows = ap (λ b. option_and_then (λ s. after_all {kind = calls} s []) (option_map f (cond b (Some found) None))) (bytes_same path);
}

pub was_listed : {A : Type 0} (root : List ℕ) (f : List Listed → Asking A) (found : List Listed) (old new : Option (List Entry)) →
    new ≡ option_map (after_answer (Lists root found)) old → Reached (asks_list root f) (f found) old new
was_listed root f found old new is = record {
  added = Lists root found ∷ [];
  answered = is;
  follows = ap (λ b. option_and_then (λ s. after_all {kind = calls} s []) (option_map f (cond b (Some found) None))) (bytes_same root);
}

-- ---- what was refused

pub gave_up : {A : Type 0} {t next : Asking A} {old new : Option (List Entry)} → Reached t next old new → GaveUp t old new
gave_up {next = next} r = record { next = next; reached = r }

-- a refusal behind what was reached
pub refused_on : {A : Type 0} (t middle : Asking A) (old between new : Option (List Entry)) (faults faults' : ℕ) (e : SessionError) →
    Reached t middle old between → Refused e middle between new faults faults' → Refused e t old new faults faults'
refused_on t middle old between new faults faults' StoreFault r h = (h.0, record { next = h.1.next; reached = goes_on r h.1.reached; call = h.1.call; asked = h.1.asked })
refused_on t middle old between new faults faults' NoMemory r h = (h.0, record { next = h.1.next; reached = goes_on r h.1.reached })

asked_then : {A B : Type 0} (t : Asking A) (k : A → Asking B) (call : Call) → next_call t ≡ Some call → next_call (and_then t k) ≡ Some call
asked_then (Gives x) k call e = not_some call e
asked_then (Asks first more f) k call e = e

pub refused_then : {A B : Type 0} (t : Asking A) (old new : Option (List Entry)) (faults faults' : ℕ) (k : A → Asking B) (e : SessionError) →
    Refused e t old new faults faults' → Refused e (and_then t k) old new faults faults'
refused_then t old new faults faults' k StoreFault h = (
  h.0,
  record {
    next = and_then h.1.next k;
    reached = goes_then t h.1.next old new k h.1.reached;
    call = h.1.call;
    asked = asked_then h.1.next k h.1.call h.1.asked;
  },
)
refused_then t old new faults faults' k NoMemory h = (h.0, record { next = and_then h.1.next k; reached = goes_then t h.1.next old new k h.1.reached })

-- the store was asked behind what was reached, and refused
pub stopped_at : {A : Type 0} (t next : Asking A) (call : Call) (e : SessionError) (old between new : Option (List Entry)) (faults middle faults' : ℕ) →
    Reached t next old between → next_call next ≡ Some call → new ≡ between → middle ≡ faults → IsFault e middle faults' → Refused e t old new faults faults'
stopped_at t next call StoreFault old between new faults middle faults' r asked same kept rose =
    (subst (λ n. n < faults') kept rose, record { next = next; reached = goes_on r (stays_at next between new same); call = call; asked = asked })
stopped_at t next call NoMemory old between new faults middle faults' r asked same kept is = (is ∙ kept, gave_up (goes_on r (stays_at next between new same)))

-- memory was wanted behind what was reached
pub wanted_memory : {A : Type 0} (t next : Asking A) (e : SessionError) (old new : Option (List Entry)) (faults faults' : ℕ) →
    e ≡ NoMemory → Reached t next old new → faults' ≡ faults → Refused e t old new faults faults'
wanted_memory t next e old new faults faults' is r kept =
    subst (λ x. Refused x t old new faults faults') (sym is) (kept, gave_up r)

-- the store was asked at once, and refused
pub read_stops : {A : Type 0} (path : List ℕ) (f : Found → Asking A) (e : SessionError) (old new : Option (List Entry)) (faults faults' : ℕ) →
    new ≡ old → IsFault e faults faults' → Refused e (asks_read path f) old new faults faults'
read_stops path f e old new faults faults' same fault =
    stopped_at (asks_read path f) (asks_read path f) (ReadCall path) e old old new faults faults faults' (stays (asks_read path f) old) refl same refl fault

-- the answer gave this
pub read_gives : {A : Type 0} (path : List ℕ) (f : Found → A) (found : Found) (x : A) (old new : Option (List Entry)) →
    new ≡ option_map (after_answer (Reads path found)) old → x ≡ f found → Reached (asks_read path (λ o. Gives (f o))) (Gives x) old new
read_gives path f found x old new read is =
    subst (λ y. Reached (asks_read path (λ o. Gives (f o))) (Gives y) old new) (sym is) (was_read path (λ o. Gives (f o)) found old new read)

-- a refusal behind what was reached, the count of faults being the same by then
pub refused_behind : {A : Type 0} (t middle : Asking A) (old between new : Option (List Entry)) (faults middle_faults faults' : ℕ) (e : SessionError) →
    Reached t middle old between → middle_faults ≡ faults → Refused e middle between new middle_faults faults' → Refused e t old new faults faults'
refused_behind t middle old between new faults middle_faults faults' e r kept h =
    refused_on t middle old between new faults faults' e r (subst (λ n. Refused e middle between new n faults') kept h)
