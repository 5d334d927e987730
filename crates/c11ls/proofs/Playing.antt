-- Laws of a play of contents.
use Rattle.std.proofs.Common.{◌≡◌, ◌≤◌, ◌+◌, ℕ, List, [], ◌∷◌, ◌++◌, drop, length, Option, None, Some, refl, sym, ap, subst, ◌∙◌, append-nil, append_assoc, add_assoc, zero-add, add-zero, drop-drop, length-append}
use Rattle.std.proofs.lemmas.List.{drop-append-le}
use Rattle.std.proofs.Math.Seq.{drop-append_seam}
use Rattle.io_edges.specs.Store.{Call, Entry}
use Rattle.c11ls.specs.Plain.{Played, Stop, Exited, Lacks, Through, play, go_on, behind}
use Rattle.c_session.specs.React.{Reaction, Replies, Wants, react}
use Rattle.c_session.specs.State.{State}
use Rattle.c11ls.proofs.Reacting.{used_by, used_within, reply_stays}

-- the play of further contents, where the first ones were played
abbrev pub then_play : Stop → Played → List Entry → (State → List Entry → Played) → Played
then_play (Exited status) p answers rest = p
then_play (Lacks call) p answers rest = p
then_play (Through s) p answers rest = behind p.out p.used (rest s (drop p.used answers))

behind_nothing : (p : Played) → behind [] 0 p ≡ p
behind_nothing p = ap (λ n. record { out = p.out; used = n; stop = p.stop }) (zero-add p.used)

behind_behind : (b c : List ℕ) (u v : ℕ) (p : Played) → behind b u (behind c v p) ≡ behind (b ++ c) (u + v) p
behind_behind b c u v p =
    ap (λ (out : List ℕ). record { out = out; used = u + (v + p.used); stop = p.stop }) (sym (append_assoc b c p.out))
    ∙ ap (λ n. record { out = (b ++ c) ++ p.out; used = n; stop = p.stop }) (sym (add_assoc u v p.used))

behind_then : (stop : Stop) (p : Played) (bytes : List ℕ) (used : ℕ) (answers : List Entry) (rest : State → List Entry → Played) →
    behind bytes used (then_play stop p (drop used answers) rest) ≡ then_play stop (behind bytes used p) answers rest
behind_then (Exited status) p bytes used answers rest = refl
behind_then (Lacks call) p bytes used answers rest = refl
behind_then (Through s) p bytes used answers rest =
    behind_behind bytes p.out used p.used _ ∙ ap (λ (left : List Entry). behind (bytes ++ p.out) (used + p.used) (rest s left)) (drop-drop p.used used answers)

go_on-append : (r : Reaction) (answers : List Entry) (cs ds : List (List ℕ)) →
    ((s : State) (left : List Entry) → play (cs ++ ds) s left ≡ then_play (play cs s left).stop (play cs s left) left (play ds)) →
    go_on r answers (play (cs ++ ds)) ≡ then_play (go_on r answers (play cs)).stop (go_on r answers (play cs)) answers (play ds)
go_on-append (Wants call) answers cs ds further = refl
go_on-append (Replies s bytes (Some status) used) answers cs ds further = refl
go_on-append (Replies s bytes None used) answers cs ds further =
    ap (behind bytes used) (further s (drop used answers))
    ∙ behind_then (play cs s (drop used answers)).stop (play cs s (drop used answers)) bytes used answers (play ds)

-- first some contents are played, and then the others
pub play-append : (cs ds : List (List ℕ)) (s : State) (answers : List Entry) →
    play (cs ++ ds) s answers ≡ then_play (play cs s answers).stop (play cs s answers) answers (play ds)
play-append [] ds s answers = sym (behind_nothing (play ds s answers))
play-append (c ∷ cs) ds s answers = go_on-append (react s c answers) answers cs ds (play-append cs ds)

-- no answer of the store was lacking
abbrev pub IsComplete : Stop → Type 0
IsComplete (Exited status) = Unit {0}
IsComplete (Lacks call) = ⊥
IsComplete (Through s) = Unit {0}

replied_stays : (s s' : State) (c bytes : List ℕ) (end : Option ℕ) (used : ℕ) (answers more : List Entry) (cs : List (List ℕ)) →
    react s c answers ≡ Replies s' bytes end used →
    ((next : State) (left : List Entry) → IsComplete (play cs next left).stop → play cs next (left ++ more) ≡ play cs next left) →
    IsComplete (go_on (Replies s' bytes end used) answers (play cs)).stop →
    go_on (Replies s' bytes end used) (answers ++ more) (play cs) ≡ go_on (Replies s' bytes end used) answers (play cs)
replied_stays s s' c bytes (Some status) used answers more cs is further complete = refl
replied_stays s s' c bytes None used answers more cs is further complete =
    let within : used ≤ length answers = subst (λ (r : Reaction). used_by r ≤ length answers) is (used_within s c answers) in
    ap (λ (left : List Entry). behind bytes used (play cs s' left)) (drop-append-le used answers more within)
    ∙ ap (behind bytes used) (further s' (drop used answers) complete)

go_on_stays : (s : State) (c : List ℕ) (answers more : List Entry) (cs : List (List ℕ)) (r : Reaction) →
    react s c answers ≡ r →
    ((next : State) (left : List Entry) → IsComplete (play cs next left).stop → play cs next (left ++ more) ≡ play cs next left) →
    IsComplete (go_on r answers (play cs)).stop →
    go_on (react s c (answers ++ more)) (answers ++ more) (play cs) ≡ go_on r answers (play cs)
go_on_stays s c answers more cs (Wants call) is further complete = absurd complete
go_on_stays s c answers more cs (Replies s' bytes end used) is further complete =
    ap (λ (r : Reaction). go_on r (answers ++ more) (play cs)) (reply_stays s s' c bytes end used answers more is)
    ∙ replied_stays s s' c bytes end used answers more cs is further complete

-- further answers change no play that lacked none
pub play_stays : (cs : List (List ℕ)) (s : State) (answers more : List Entry) →
    IsComplete (play cs s answers).stop → play cs s (answers ++ more) ≡ play cs s answers
play_stays [] s answers more complete = refl
play_stays (c ∷ cs) s answers more complete =
    go_on_stays s c answers more cs (react s c answers) refl (λ next left. play_stays cs next left more) complete

abbrev pub played_to : List ℕ → ℕ → Stop → Played
played_to out used stop = record { out = out; used = used; stop = stop }

-- what one reply adds to a play
abbrev pub after_reply : State → List ℕ → Option ℕ → List ℕ → ℕ → Played
after_reply s bytes None out used = played_to (out ++ bytes) used (Through s)
after_reply s bytes (Some status) out used = played_to (out ++ bytes) used (Exited status)

played_alike : (a b : List ℕ) (m n : ℕ) (stop : Stop) → a ≡ b → m ≡ n → played_to a m stop ≡ played_to b n stop
played_alike a b m n stop p q = ap (λ (out : List ℕ). played_to out m stop) p ∙ ap (λ used. played_to b used stop) q

one_reply : (s' : State) (bytes : List ℕ) (end : Option ℕ) (out : List ℕ) (before added : List Entry) →
    behind out (length before) (go_on (Replies s' bytes end (length added)) added (play [])) ≡ after_reply s' bytes end out (length (before ++ added))
one_reply s' bytes None out before added = played_alike _ _ _ _ _ (ap (λ (b : List ℕ). out ++ b) (append-nil bytes))
    (ap (λ n. length before + n) (add-zero (length added)) ∙ sym (length-append before added))
one_reply s' bytes (Some status) out before added = played_alike _ _ _ _ _ refl (sym (length-append before added))

-- One more content is played, with the answers that its reaction used.
pub play_one_more : (cs : List (List ℕ)) (c : List ℕ) (s0 s s' : State) (before added : List Entry) (out bytes : List ℕ) (end : Option ℕ) →
    play cs s0 before ≡ played_to out (length before) (Through s) →
    react s c added ≡ Replies s' bytes end (length added) →
    play (cs ++ c ∷ []) s0 (before ++ added) ≡ after_reply s' bytes end out (length (before ++ added))
play_one_more cs c s0 s s' before added out bytes end is reacts =
    let complete : IsComplete (play cs s0 before).stop = subst (λ (p : Played). IsComplete p.stop) (sym is) tt in
    let first : play cs s0 (before ++ added) ≡ played_to out (length before) (Through s) = play_stays cs s0 before added complete ∙ is in
    play-append cs (c ∷ []) s0 (before ++ added)
    ∙ ap (λ (p : Played). then_play p.stop p (before ++ added) (play (c ∷ []))) first
    ∙ ap (λ (left : List Entry). behind out (length before) (play (c ∷ []) s left)) (drop-append_seam before added)
    ∙ ap (λ (r : Reaction). behind out (length before) (go_on r added (play []))) reacts
    ∙ one_reply s' bytes end out before added

-- The store fails at a call that one more content wants.
pub play_one_wants : (cs : List (List ℕ)) (c : List ℕ) (ds : List (List ℕ)) (s0 s : State) (call : Call) (before added : List Entry) (out : List ℕ) →
    play cs s0 before ≡ played_to out (length before) (Through s) →
    react s c added ≡ Wants call →
    play (cs ++ c ∷ ds) s0 (before ++ added) ≡ played_to out (length before) (Lacks call)
play_one_wants cs c ds s0 s call before added out is reacts =
    let complete : IsComplete (play cs s0 before).stop = subst (λ (p : Played). IsComplete p.stop) (sym is) tt in
    let first : play cs s0 (before ++ added) ≡ played_to out (length before) (Through s) = play_stays cs s0 before added complete ∙ is in
    play-append cs (c ∷ ds) s0 (before ++ added)
    ∙ ap (λ (p : Played). then_play p.stop p (before ++ added) (play (c ∷ ds))) first
    ∙ ap (λ (left : List Entry). behind out (length before) (play (c ∷ ds) s left)) (drop-append_seam before added)
    ∙ ap (λ (r : Reaction). behind out (length before) (go_on r added (play ds))) reacts
    ∙ played_alike _ _ _ _ _ (append-nil out) (add-zero (length before))
