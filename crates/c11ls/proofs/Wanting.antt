-- Each answer of the store was wanted.
use Rattle.std.proofs.Common.{◌≡◌, ℕ, List, [], ◌∷◌, ◌++◌, take, drop, length, refl, sym, ap, subst, ◌∙◌, append_assoc}
use Rattle.std.proofs.lemmas.List.{take-append-drop}
use Rattle.io_edges.specs.Store.{Entry, call_of}
use Rattle.lsp_framing.specs.Frames.{frames}
use Rattle.project_conf.specs.declared.options.Options.{Options}
use Rattle.c_session.specs.State.{State, fresh}
use Rattle.c11ls.specs.Plain.{Played, Stop, Lacks, Through, play, played}
use Rattle.c11ls.specs.Serve.{EachWanted}
use Rattle.c11ls.proofs.Framing.{ContentsStay}
use Rattle.c11ls.proofs.Reacting.{EachAsked}
use Rattle.c11ls.proofs.Playing.{play-append, play_one_wants, played_to, then_play}

-- nothing was answered
pub none_wanted : (options : Options) (taken : List ℕ) → EachWanted options taken []
none_wanted options taken [] entry behind split = absurd (is_empty split)
  where
    is_empty : {A : Type 0} {x : A} {xs : List A} → [] ≡ x ∷ xs → ⊥
    is_empty e = cc
none_wanted options taken (b ∷ before) entry behind split = absurd (is_empty split)
  where
    is_empty : {A : Type 0} {x : A} {xs : List A} → [] ≡ x ∷ xs → ⊥
    is_empty e = cc

-- contents behind those where an answer is lacking change nothing
lacks_on : (cs ds : List (List ℕ)) (s : State) (answers : List Entry) (entry : Entry) →
    (play cs s answers).stop ≡ Lacks (call_of entry) → (play (cs ++ ds) s answers).stop ≡ Lacks (call_of entry)
lacks_on cs ds s answers entry is =
    ap (λ (p : Played). p.stop) (play-append cs ds s answers)
    ∙ subst (λ (stop : Stop). (then_play stop (play cs s answers) answers (play ds)).stop ≡ Lacks (call_of entry)) (sym is) is

-- contents by the first ones
pub split_at : (cs front : List (List ℕ)) → take (length front) cs ≡ front → cs ≡ front ++ drop (length front) cs
split_at cs front first = sym (take-append-drop (length front) cs) ∙ ap (λ (f : List (List ℕ)). f ++ drop (length front) cs) first

-- more bytes were taken
pub wanted_stays : ContentsStay → (options : Options) (taken bytes : List ℕ) (answers : List Entry) → EachWanted options taken answers → EachWanted options (taken ++ bytes) answers
unfolding played
wanted_stays stays options taken bytes answers each before entry behind split =
    let contents = (frames taken).contents in
    let all = (frames (taken ++ bytes)).contents in
    ap (λ (cs : List (List ℕ)). (play cs (fresh options) before).stop) (split_at all contents (stays taken bytes))
    ∙ lacks_on contents (drop (length contents) all) (fresh options) before entry (each before entry behind split)

-- a place among first answers and further ones
data Place (first added before : List Entry) (entry : Entry) : Type 0 where
  InFirst : (behind : List Entry) → first ≡ before ++ entry ∷ behind → Place first added before entry
  InAdded : (front behind : List Entry) → before ≡ first ++ front → added ≡ front ++ entry ∷ behind → Place first added before entry

head_is : {A : Type 0} (x y : A) (xs ys : List A) → x ∷ xs ≡ y ∷ ys → x ≡ y
head_is x y xs ys e = cc

tail_is : {A : Type 0} (x y : A) (xs ys : List A) → x ∷ xs ≡ y ∷ ys → xs ≡ ys
tail_is x y xs ys e = cc

next_place : (x y : Entry) (first added before : List Entry) (entry : Entry) → x ≡ y → Place first added before entry → Place (x ∷ first) added (y ∷ before) entry
next_place x y first added before entry same (InFirst behind is) = InFirst behind (ap (λ e. e ∷ first) same ∙ ap (λ (es : List Entry). y ∷ es) is)
next_place x y first added before entry same (InAdded front behind is more) = InAdded front behind (ap (λ e. e ∷ before) (sym same) ∙ ap (λ (es : List Entry). x ∷ es) is) more

place_of : (first added before : List Entry) (entry : Entry) (behind : List Entry) → first ++ added ≡ before ++ entry ∷ behind → Place first added before entry
place_of [] added before entry behind split = InAdded before behind refl split
place_of (x ∷ first) added [] entry behind split = InFirst first (ap (λ e. e ∷ first) (head_is x entry (first ++ added) behind split))
place_of (x ∷ first) added (y ∷ before) entry behind split =
    next_place x y first added before entry (head_is x y _ _ split) (place_of first added before entry behind (tail_is x y _ _ split))

at_place : (options : Options) (taken : List ℕ) (handled : List (List ℕ)) (content : List ℕ) (s : State) (answers added : List Entry) (out : List ℕ) (before : List Entry) (entry : Entry) →
    take (length (handled ++ content ∷ [])) (frames taken).contents ≡ handled ++ content ∷ [] →
    play handled (fresh options) answers ≡ played_to out (length answers) (Through s) →
    EachAsked s content added → EachWanted options taken answers → Place answers added before entry → (played options taken before).stop ≡ Lacks (call_of entry)
unfolding played
at_place options taken handled content s answers added out before entry first plays asked each (InFirst behind is) = each before entry behind is
at_place options taken handled content s answers added out before entry first plays asked each (InAdded front behind is more) =
    let contents = (frames taken).contents in
    let behind_it = drop (length (handled ++ content ∷ [])) contents in
    ap (λ (es : List Entry). (play contents (fresh options) es).stop) is
    ∙ ap (λ (cs : List (List ℕ)). (play cs (fresh options) (answers ++ front)).stop) (split_at contents (handled ++ content ∷ []) first ∙ append_assoc handled (content ∷ []) behind_it)
    ∙ ap (λ (p : Played). p.stop) (play_one_wants handled content behind_it (fresh options) s (call_of entry) answers front out plays (asked front entry behind more))

-- the answers to the content in turn are wanted behind those to the contents before it
pub wanted_next : (options : Options) (taken : List ℕ) (handled : List (List ℕ)) (content : List ℕ) (s : State) (answers added : List Entry) (out : List ℕ) →
    take (length (handled ++ content ∷ [])) (frames taken).contents ≡ handled ++ content ∷ [] →
    play handled (fresh options) answers ≡ played_to out (length answers) (Through s) →
    EachAsked s content added → EachWanted options taken answers → EachWanted options taken (answers ++ added)
wanted_next options taken handled content s answers added out first plays asked each before entry behind split =
    at_place options taken handled content s answers added out before entry first plays asked each (place_of answers added before entry behind split)
