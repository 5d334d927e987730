-- A generated run, content by content, and what it prints.
use Rattle.std.proofs.Common.{◌≡◌, ℕ, List, [], ◌∷◌, ◌++◌, take, Option, None, Some, option_map, refl, sym, ap, ◌∙◌, subst, T, is_none, append-nil}
use Rattle.std.proofs.lemmas.List.{take-append-drop}
use Rattle.io_edges.specs.Wire.{Traffic, after_write}
use Rattle.asking.specs.InTurn.{run}
use Rattle.c_session.specs.Asking.{Asking, Gives, after_all}
use Rattle.c_session.specs.Handled.{Handled, outcome}
use Rattle.c_session.specs.React.{Outcome, Replies, reaction, asks, react}
use Rattle.c_session.specs.State.{State}
use Rattle.project_conf.specs.declared.options.Options.{Options}
use Rattle.c11ls.specs.Calls.{IfTold}
use Rattle.c11ls.specs.Generated.{Generated, left_by, printed, state_behind}
use Rattle.c11ls.specs.Ties.Turn.{SentFront}
use Rattle.c11ls.specs.declared.status.Status.TheVariants as status

-- ---- contents that ask for nothing

some_is : {A : Type 0} (x y : A) → Some x ≡ Some y → x ≡ y
some_is x y same = cc

-- what a store without answers let through asked for none
replies : (s s' : State) (content bytes : List ℕ) (end : Option ℕ) → Handled s content s' bytes end (Some []) (Some []) → react s content [] ≡ Replies s' bytes end 0
unfolding react
replies s s' content bytes end h =
    let none : h.added ≡ [] = sym (some_is [] h.added h.answered) in
    let gives : asks s content ≡ Gives (outcome s' bytes end) = some_is _ _ (ap (after_all (asks s content)) (sym none) ∙ h.follows) in
    ap (λ (asking : Asking Outcome). reaction (run asking [])) gives

pub left_more : (s s' all : State) (content bytes : List ℕ) (end : Option ℕ) (rest behind : List (List ℕ)) → rest ≡ content ∷ behind →
    Handled s content s' bytes end (Some []) (Some []) → left_by s rest ≡ all → left_by s' behind ≡ all
left_more s s' all content bytes end rest behind first h left =
    sym (ap (λ r. left_by (state_behind s r) behind) (replies s s' content bytes end h)) ∙ sym (ap (left_by s) first) ∙ left

-- ---- what is printed

abbrev behind : List ℕ → Traffic → Traffic
behind out t = record { left = t.left; taken = t.taken; written = t.written ++ out; marks = t.marks }

told_is : (t t' : Traffic) (out : List ℕ) → Some t' ≡ option_map (after_write out) (Some t) → t' ≡ behind out t
told_is t t' out is = cc

stays_is : (t t' : Traffic) → Some t' ≡ Some t → t' ≡ behind [] t
stays_is t t' is = some_is t' t is ∙ ap (λ (all : List ℕ). record { left = t.left; taken = t.taken; written = all; marks = t.marks }) (sym (append-nil t.written))

no_some : {A B : Type 0} (x : A) → None ≡ Some x → B
no_some x is = absurd (subst (λ o. T (is_none o)) is tt)

pub printed_all : (options : Options) (n : ℕ) (text : List ℕ) (w w' : Option Traffic) → text ≡ printed options n → w' ≡ option_map (after_write text) w →
    IfTold w w' (Generated options n status.Done)
printed_all options n text None w' is told = tt
printed_all options n text (Some t) None is told = no_some _ told
printed_all options n text (Some t) (Some t') is told = record { out = text; printed = is; wrote = told_is t t' text told }

pub printed_front : (options : Options) (n : ℕ) (text : List ℕ) (w w' : Option Traffic) → text ≡ printed options n → SentFront w w' text →
    IfTold w w' (Generated options n status.WriteFault)
printed_front options n text None w' is sent = tt
printed_front options n text (Some t) None is sent = no_some _ sent.told
printed_front options n text (Some t) (Some t') is sent = record {
  out = take sent.size text;
  printed = (_, sym is ∙ sym (take-append-drop sent.size text));
  wrote = told_is t t' (take sent.size text) sent.told;
}

pub printed_nothing : (options : Options) (n : ℕ) (w w' : Option Traffic) → w' ≡ w → IfTold w w' (Generated options n status.NoMemory)
printed_nothing options n None w' stays = tt
printed_nothing options n (Some t) None stays = no_some _ stays
printed_nothing options n (Some t) (Some t') stays = record { out = []; printed = refl; wrote = stays_is t t' stays }
