-- What is read from a command as it is written.
use Rattle.std.proofs.Common.{◌≡◌, ℕ, Bool, true, false, ◌==◌, ◌||◌, List, [], ◌∷◌, ◌++◌, map, Some, unwrap_or, encode_utf8, encode_utf8_all, refl, sym, ap, ◌∙◌, append_assoc, append-nil, true≢false, if◌then◌else◌}
use Rattle.std.proofs.lemmas.Grind.{flat_map-append}
use Rattle.project_conf.specs.declared.parting.Mode.TheVariants.{Plain, Escaped, Single, Double, DoubleEscaped}
use Rattle.project_conf.specs.declared.parting.Act.TheVariants.{Parts, Turns, Keeps, KeepsBoth}
use Rattle.project_conf.specs.Parting.{step, Parted, all_words, in_word, by_act, parted, space, double_quote, single_quote, backslash}
use Rattle.project_conf.specs.Writing.{is_special, is_taken, IsSingle, single_end, single_more, IsDouble, double_end, double_itself, double_taken, double_both, IsPiece, itself, taken, single, double, IsWord, last_piece, more_pieces, IsOpen, open_backslash, open_single, open_double, open_both, open_later, AreWords, no_words, space_first, last_word, open_word, more_words}
use Rattle.project_conf.proofs.WordLemmas.{space_parts, slashed}

-- ---- texts in front

twice : (a b : List ℕ) (p : Parted) → in_word a (in_word b p) ≡ in_word (a ++ b) p
twice a b p = ap (λ w. record { word = Some w; behind = p.behind }) (sym (append_assoc a b (unwrap_or p.word [])))

none_more : (a : List ℕ) (p : Parted) → in_word a p ≡ in_word (a ++ []) p
none_more a p = ap (λ w. in_word w p) (sym (append-nil a))

encoded_both : (s t : List ℕ) → encode_utf8_all (s ++ t) ≡ encode_utf8_all s ++ encode_utf8_all t
encoded_both s t = flat_map-append encode_utf8 s t

-- ---- between quotes

pub kept_single : (c : ℕ) → c == single_quote ≡ false → step Single c ≡ Keeps Single
unfolding step
kept_single c h = rw h refl

single_front : (s : List ℕ) → IsSingle s → (a e : List ℕ) → in_word a (parted Single (s ++ e)) ≡ in_word (a ++ encode_utf8_all s) (parted Single e)
unfolding parted
single_front s single_end a e = none_more a (parted Single e)
single_front s (single_more c t h i) a e =
    ap (λ act. in_word a (by_act act c (λ next. parted next (t ++ e)))) (kept_single c h)
    ∙ twice a (encode_utf8 c) (parted Single (t ++ e))
    ∙ single_front t i (a ++ encode_utf8 c) e
    ∙ ap (λ w. in_word w (parted Single e)) (append_assoc a (encode_utf8 c) (encode_utf8_all t))

kept_parts : (a b : Bool) → a || b ≡ false → (if a then Turns Plain else (if b then Turns DoubleEscaped else Keeps Double)) ≡ Keeps Double
kept_parts true b h = absurd (true≢false h)
kept_parts false true h = absurd (true≢false h)
kept_parts false false h = refl

pub kept_double : (c : ℕ) → is_taken c ≡ false → step Double c ≡ Keeps Double
unfolding step
kept_double c h = kept_parts (c == double_quote) (c == backslash) h

taken_escaped : (c : ℕ) → is_taken c ≡ true → step DoubleEscaped c ≡ Keeps Double
unfolding step
taken_escaped c h = rw h refl

both_escaped : (c : ℕ) → is_taken c ≡ false → step DoubleEscaped c ≡ KeepsBoth Double
unfolding step
both_escaped c h = rw h refl

double_front : (s t : List ℕ) → IsDouble s t → (a e : List ℕ) → in_word a (parted Double (s ++ e)) ≡ in_word (a ++ encode_utf8_all t) (parted Double e)
unfolding parted step
double_front s t double_end a e = none_more a (parted Double e)
double_front s t (double_itself c s' t' h i) a e =
    ap (λ act. in_word a (by_act act c (λ next. parted next (s' ++ e)))) (kept_double c h)
    ∙ twice a (encode_utf8 c) (parted Double (s' ++ e))
    ∙ double_front s' t' i (a ++ encode_utf8 c) e
    ∙ ap (λ w. in_word w (parted Double e)) (append_assoc a (encode_utf8 c) (encode_utf8_all t'))
double_front s t (double_taken c s' t' h i) a e =
    ap (λ act. in_word a (by_act act c (λ next. parted next (s' ++ e)))) (taken_escaped c h)
    ∙ twice a (encode_utf8 c) (parted Double (s' ++ e))
    ∙ double_front s' t' i (a ++ encode_utf8 c) e
    ∙ ap (λ w. in_word w (parted Double e)) (append_assoc a (encode_utf8 c) (encode_utf8_all t'))
double_front s t (double_both c s' t' h i) a e =
    ap (λ act. in_word a (by_act act c (λ next. parted next (s' ++ e)))) (both_escaped c h)
    ∙ twice a (backslash ∷ encode_utf8 c) (parted Double (s' ++ e))
    ∙ double_front s' t' i (a ++ backslash ∷ encode_utf8 c) e
    ∙ ap (λ w. in_word w (parted Double e)) (append_assoc a (backslash ∷ encode_utf8 c) (encode_utf8_all t') ∙ ap (λ w. a ++ (w ++ (encode_utf8 c ++ encode_utf8_all t'))) (sym slashed))

-- ---- pieces and words

plain_parts : (a b d e : Bool) → a || b || d || e ≡ false → (if a then Parts else (if b then Turns Single else (if d then Turns Double else (if e then Turns Escaped else Keeps Plain)))) ≡ Keeps Plain
plain_parts true b d e h = absurd (true≢false h)
plain_parts false true d e h = absurd (true≢false h)
plain_parts false false true e h = absurd (true≢false h)
plain_parts false false false true h = absurd (true≢false h)
plain_parts false false false false h = refl

pub kept_plain : (c : ℕ) → is_special c ≡ false → step Plain c ≡ Keeps Plain
unfolding step
kept_plain c h = plain_parts (c == space) (c == single_quote) (c == double_quote) (c == backslash) h

piece_read : (s t : List ℕ) → IsPiece s t → (e : List ℕ) → parted Plain (s ++ e) ≡ in_word (encode_utf8_all t) (parted Plain e)
unfolding parted step
piece_read s t (itself c h) e =
    ap (λ act. by_act act c (λ next. parted next e)) (kept_plain c h) ∙ none_more (encode_utf8 c) (parted Plain e)
piece_read s t (taken c) e = none_more (encode_utf8 c) (parted Plain e)
piece_read s t (single s' i) e =
    ap (λ w. in_word [] (parted Single w)) (append_assoc s' (single_quote ∷ []) e) ∙ single_front s' i [] (single_quote ∷ e)
piece_read s t (double s' t' i) e =
    ap (λ w. in_word [] (parted Double w)) (append_assoc s' (double_quote ∷ []) e) ∙ double_front s' t' i [] (double_quote ∷ e)

word_read : (s t : List ℕ) → IsWord s t → (e : List ℕ) → parted Plain (s ++ e) ≡ in_word (encode_utf8_all t) (parted Plain e)
word_read s t (last_piece a b p) e = piece_read a b p e
word_read s t (more_pieces a b a' b' p w) e =
    ap (parted Plain) (append_assoc a a' e) ∙ piece_read a b p (a' ++ e) ∙ ap (in_word (encode_utf8_all b)) (word_read a' b' w e)
    ∙ twice (encode_utf8_all b) (encode_utf8_all b') (parted Plain e) ∙ ap (λ w. in_word w (parted Plain e)) (sym (encoded_both b b'))

-- ---- what isn't closed

abbrev alone : List ℕ → Parted
alone w = record { word = Some w; behind = [] }

open_read : (s t : List ℕ) → IsOpen s t → parted Plain s ≡ alone (encode_utf8_all t)
unfolding parted step
open_read s t open_backslash = ap alone (sym slashed ∙ sym (append-nil (encode_utf8 backslash)))
open_read s t (open_single s' i) =
    ap (λ w. in_word [] (parted Single w)) (sym (append-nil s')) ∙ single_front s' i [] [] ∙ ap alone (append-nil (encode_utf8_all s'))
open_read s t (open_double s' t' i) =
    ap (λ w. in_word [] (parted Double w)) (sym (append-nil s')) ∙ double_front s' t' i [] [] ∙ ap alone (append-nil (encode_utf8_all t'))
open_read s t (open_both s' t' i) =
    double_front s' t' i [] (backslash ∷ [])
    ∙ ap alone (ap (λ w. encode_utf8_all t' ++ w) (sym slashed ∙ sym (append-nil (encode_utf8 backslash))) ∙ sym (encoded_both t' (backslash ∷ [])))
open_read s t (open_later a b a' b' p o) =
    piece_read a b p a' ∙ ap (in_word (encode_utf8_all b)) (open_read a' b' o) ∙ ap alone (sym (encoded_both b b'))

-- ---- all words

pub words_read : (s : List ℕ) (words : List (List ℕ)) → AreWords s words → all_words (parted Plain s) ≡ map encode_utf8_all words
unfolding parted step
words_read s words no_words = refl
words_read s words (space_first s' ws a) = space_parts s' ∙ words_read s' ws a
words_read s words (last_word a t w) =
    ap (λ x. all_words (parted Plain x)) (sym (append-nil a)) ∙ ap all_words (word_read a t w []) ∙ ap (λ x. x ∷ []) (append-nil (encode_utf8_all t))
words_read s words (open_word a t o) = ap all_words (open_read a t o)
words_read s words (more_words a t s' ws w more) =
    ap all_words (word_read a t w (space ∷ s'))
    ∙ ap (λ x. x ∷ all_words (parted Plain s')) (append-nil (encode_utf8_all t)) ∙ ap (λ x. encode_utf8_all t ∷ x) (words_read s' ws more)
