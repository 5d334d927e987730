-- The words of a command, a character at a time.
use Rattle.std.proofs.Common.{◌≡◌, ℕ, Bool, true, false, ◌==◌, List, [], ◌∷◌, ◌++◌, unwrap_or, refl, sym, ap, ◌∙◌, append_assoc, append-nil, true≢false, if◌then◌else◌}
use Rattle.std.specs.Char.{encode_utf8}
use Rattle.project_conf.specs.declared.parting.Mode.{Mode}
use Rattle.project_conf.specs.declared.parting.Mode.TheVariants.{Plain, Escaped, Single, Double, DoubleEscaped}
use Rattle.project_conf.specs.declared.parting.Act.{Act}
use Rattle.project_conf.specs.declared.parting.Act.TheVariants.{Parts, Turns, Keeps, KeepsBoth}
use Rattle.project_conf.specs.Parting.{step, Parted, all_words, all_behind, at_end, by_act, parted}

-- ---- where a word begins

pub space_parts : (cs : List ℕ) → all_words (parted Plain (32 ∷ cs)) ≡ all_words (parted Plain cs)
unfolding parted step
space_parts cs = refl

abbrev parts_words : Act → Bool
parts_words Parts = true
parts_words (Turns next) = false
parts_words (Keeps next) = false
parts_words (KeepsBoth next) = false

begun : (act : Act) (c : ℕ) (from : Mode → Parted) → parts_words act ≡ false → all_words (by_act act c from) ≡ all_behind [] (by_act act c from)
begun Parts c from h = absurd (true≢false h)
begun (Turns next) c from h = refl
begun (Keeps next) c from h = refl
begun (KeepsBoth next) c from h = refl

no_parts : (a b d : Bool) → parts_words (if a then Turns Single else (if b then Turns Double else (if d then Turns Escaped else Keeps Plain))) ≡ false
no_parts true b d = refl
no_parts false true d = refl
no_parts false false true = refl
no_parts false false false = refl

stays : (c : ℕ) → (c == 32) ≡ false → parts_words (step Plain c) ≡ false
unfolding step
stays c h = ap (λ b. parts_words (if b then Parts else (if c == 39 then Turns Single else (if c == 34 then Turns Double else (if c == 92 then Turns Escaped else Keeps Plain))))) h ∙ no_parts (c == 39) (c == 34) (c == 92)

pub word_begins : (c : ℕ) (cs : List ℕ) → (c == 32) ≡ false → all_words (parted Plain (c ∷ cs)) ≡ all_behind [] (parted Plain (c ∷ cs))
unfolding parted
word_begins c cs h = begun (step Plain c) c (λ next. parted next cs) (stays c h)

-- ---- one character of a word of which some text was read, where `all` are the words from the word's front on

pub slashed : encode_utf8 92 ≡ 92 ∷ []
unfolding encode_utf8
slashed = refl

module _ (mode : Mode) (c : ℕ) (text cs made : List ℕ) (all : List (List ℕ)) (reads : all_behind made (parted mode text) ≡ all) (first : text ≡ c ∷ cs) where
  by : (act : Act) → step mode c ≡ act → all_behind made (by_act act c (λ next. parted next cs)) ≡ all
  unfolding parted
  by act h = sym (ap (λ t. all_behind made (parted mode t)) first ∙ ap (λ a. all_behind made (by_act a c (λ next. parted next cs))) h) ∙ reads

  pub word_parts : step mode c ≡ Parts → all ≡ made ∷ all_words (parted Plain cs)
  word_parts h = sym (by Parts h) ∙ ap (λ w. w ∷ all_words (parted Plain cs)) (append-nil made)

  pub word_turns : (next : Mode) → step mode c ≡ Turns next → all_behind made (parted next cs) ≡ all
  word_turns next h = by (Turns next) h

  pub word_keeps : (next : Mode) (made' : List ℕ) → step mode c ≡ Keeps next → made' ≡ made ++ encode_utf8 c → all_behind made' (parted next cs) ≡ all
  word_keeps next made' h e =
      ap (λ w. all_behind w (parted next cs)) e ∙ ap (λ w. w ∷ (parted next cs).behind) (append_assoc made (encode_utf8 c) (unwrap_or (parted next cs).word []))
      ∙ by (Keeps next) h

  pub word_keeps_both : (next : Mode) (half made' : List ℕ) → step mode c ≡ KeepsBoth next → half ≡ made ++ encode_utf8 92 → made' ≡ half ++ encode_utf8 c → all_behind made' (parted next cs) ≡ all
  word_keeps_both next half made' h e f =
      ap (λ w. all_behind w (parted next cs)) (f ∙ ap (λ w. w ++ encode_utf8 c) (e ∙ ap (λ b. made ++ b) slashed))
      ∙ ap (λ w. w ∷ (parted next cs).behind)
      (append_assoc (made ++ 92 ∷ []) (encode_utf8 c) (unwrap_or (parted next cs).word []) ∙ append_assoc made (92 ∷ []) (encode_utf8 c ++ unwrap_or (parted next cs).word []))
      ∙ by (KeepsBoth next) h

-- ---- at the end of the command

nothing : (mode : Mode) → (at_end mode).behind ≡ []
nothing Plain = refl
nothing Escaped = refl
nothing Single = refl
nothing Double = refl
nothing DoubleEscaped = refl

pub no_words : (text : List ℕ) → text ≡ [] → all_words (parted Plain text) ≡ []
unfolding parted
no_words text h = ap (λ t. all_words (parted Plain t)) h

pub word_ends : (mode : Mode) (text made made' : List ℕ) (all : List (List ℕ)) → all_behind made (parted mode text) ≡ all → text ≡ []
    → made' ≡ made ++ unwrap_or (at_end mode).word [] → all ≡ made' ∷ all_words (parted Plain text)
unfolding parted
word_ends mode text made made' all reads none e =
    sym reads ∙ ap (λ t. all_behind made (parted mode t)) none ∙ ap (λ w. w ∷ (at_end mode).behind) (sym e)
    ∙ ap (λ ws. made' ∷ ws) (nothing mode ∙ sym (no_words text none))
