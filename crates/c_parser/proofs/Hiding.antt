-- What the kinds of tokens are where a name hides a typedef name.
use Rattle.std.proofs.Common.{◌≡◌, refl, ap, sym, ◌∙◌, ℕ, zero, suc, ◌+◌, List, [], ◌∷◌, length, map, Option, Some, None, Bool, true, false, true≢false, ◌==◌, if◌then◌else◌}
use Rattle.c_parser.specs.declared.kinds.Kind.{Kind}
use Rattle.c_parser.specs.declared.kinds.Kind.TheVariants.{Identifier, TypeName, Comma, CloseParen, Ellipsis}
use Rattle.c_parser.specs.Kinds.{kind_at, ends_type, hidden_one, hide_word, hide_kind, hide}
use Rattle.c_parser.specs.TypeNames.{RowEnd, at_close, at_dots}

mapped_length : (f : Kind → Kind) → (ks : List Kind) → length (map f ks) ≡ length ks
mapped_length f [] = refl
mapped_length f (k ∷ ks) = ap suc (mapped_length f ks)

pub word_length : (ks : List Kind) → (w : ℕ) → length (hide_word ks w) ≡ length ks
unfolding hide_word
word_length ks w = mapped_length (hidden_one w) ks

kind_length : (ks : List Kind) → (k : Kind) → length (hide_kind ks k) ≡ length ks
kind_length ks (TypeName w) = word_length ks w
kind_length ks _ = refl

pub hidden_length : (ks : List Kind) → (o : Option ℕ) → length (hide ks o) ≡ length ks
hidden_length ks None = refl
hidden_length ks (Some n) = kind_length ks (kind_at ks n)

mapped_at : (w : ℕ) → (ks : List Kind) → (a : ℕ) → kind_at (map (hidden_one w) ks) a ≡ hidden_one w (kind_at ks a)
mapped_at w [] a = refl
mapped_at w (k ∷ ks) zero = refl
mapped_at w (k ∷ ks) (suc a) = mapped_at w ks a

pub word_at : (ks : List Kind) → (w a : ℕ) → kind_at (hide_word ks w) a ≡ hidden_one w (kind_at ks a)
unfolding hide_word
word_at ks w a = mapped_at w ks a

-- a test that tells no typedef name from another identifier
abbrev pub IsBlind : (Kind → Bool) → Type 0
IsBlind f = (n : ℕ) → f (TypeName n) ≡ f Identifier

blind_if : (f : Kind → Bool) → IsBlind f → (n : ℕ) → (b : Bool) → f (if b then Identifier else TypeName n) ≡ f (TypeName n)
blind_if f u n true = sym (u n)
blind_if f u n false = refl

blind_one : (f : Kind → Bool) → IsBlind f → (w : ℕ) → (k : Kind) → f (hidden_one w k) ≡ f k
blind_one f u w (TypeName n) = blind_if f u n (n == w)
blind_one f u w _ = refl

blind_kind : (f : Kind → Bool) → IsBlind f → (ks : List Kind) → (k : Kind) → (a : ℕ) → f (kind_at (hide_kind ks k) a) ≡ f (kind_at ks a)
blind_kind f u ks (TypeName w) a = ap f (word_at ks w a) ∙ blind_one f u w (kind_at ks a)
blind_kind f u ks _ a = refl

pub blind : (f : Kind → Bool) → IsBlind f → (ks : List Kind) → (o : Option ℕ) → (a : ℕ) → f (kind_at (hide ks o) a) ≡ f (kind_at ks a)
blind f u ks None a = refl
blind f u ks (Some n) a = blind_kind f u ks (kind_at ks n) a

abbrev is_comma : Kind → Bool
is_comma Comma = true
is_comma _ = false

comma_is : (k : Kind) → is_comma k ≡ true → k ≡ Comma
comma_is Comma h = refl
comma_is _ h = absurd (true≢false (sym h))

abbrev is_close : Kind → Bool
is_close CloseParen = true
is_close _ = false

close_is : (k : Kind) → is_close k ≡ true → k ≡ CloseParen
close_is CloseParen h = refl
close_is _ h = absurd (true≢false (sym h))

abbrev is_dots : Kind → Bool
is_dots Ellipsis = true
is_dots _ = false

dots_is : (k : Kind) → is_dots k ≡ true → k ≡ Ellipsis
dots_is Ellipsis h = refl
dots_is _ h = absurd (true≢false (sym h))

pub comma_kept : (ks : List Kind) → (o : Option ℕ) → (a : ℕ) → kind_at ks a ≡ Comma → kind_at (hide ks o) a ≡ Comma
comma_kept ks o a h = comma_is (kind_at (hide ks o) a) (blind is_comma (λ n. refl) ks o a ∙ ap is_comma h)

pub comma_was : (ks : List Kind) → (o : Option ℕ) → (a : ℕ) → kind_at (hide ks o) a ≡ Comma → kind_at ks a ≡ Comma
comma_was ks o a h = comma_is (kind_at ks a) (sym (blind is_comma (λ n. refl) ks o a) ∙ ap is_comma h)

close_kept : (ks : List Kind) → (o : Option ℕ) → (a : ℕ) → kind_at ks a ≡ CloseParen → kind_at (hide ks o) a ≡ CloseParen
close_kept ks o a h = close_is (kind_at (hide ks o) a) (blind is_close (λ n. refl) ks o a ∙ ap is_close h)

dots_kept : (ks : List Kind) → (o : Option ℕ) → (a : ℕ) → kind_at ks a ≡ Ellipsis → kind_at (hide ks o) a ≡ Ellipsis
dots_kept ks o a h = dots_is (kind_at (hide ks o) a) (blind is_dots (λ n. refl) ks o a ∙ ap is_dots h)

pub dots_was : (ks : List Kind) → (o : Option ℕ) → (a : ℕ) → kind_at (hide ks o) a ≡ Ellipsis → kind_at ks a ≡ Ellipsis
dots_was ks o a h = dots_is (kind_at ks a) (sym (blind is_dots (λ n. refl) ks o a) ∙ ap is_dots h)

pub ends_was : (ks : List Kind) → (o : Option ℕ) → (a : ℕ) → ends_type (kind_at (hide ks o) a) ≡ true → ends_type (kind_at ks a) ≡ true
ends_was ks o a h = sym (blind ends_type (λ n. refl) ks o a) ∙ h

pub row_end_kept : (ks : List Kind) → (o : Option ℕ) → (c : ℕ) → RowEnd ks c → RowEnd (hide ks o) c
row_end_kept ks o c (at_close e) = at_close (close_kept ks o c e)
row_end_kept ks o c (at_dots e d) = at_dots (comma_kept ks o c e) (dots_kept ks o (c + 1) d)
