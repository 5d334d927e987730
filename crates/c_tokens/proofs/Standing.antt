-- What is a member of a class by the standard's productions, the scanner reads as a piece: so where it reads none, none is there.
use Rattle.std.proofs.Common.{◌≡◌, ℕ, Bool, true, false, ◌&&◌, ◌||◌, inl, inr, List, ◌∙◌}
use Rattle.tok_data.specs.declared.tokens.PpKind.TheVariants.{Ident, Number, Char, Str, Header as HeaderName, Punct, Stray}
use Rattle.c_tokens.specs.declared.pieces.Class.{Class}
use Rattle.c_tokens.specs.declared.pieces.Class.TheVariants.{Blank, LineEnd, Comment, OpenComment, Token, OpenLiteral}
use Rattle.c_tokens.specs.declared.pieces.Context.{Context}
use Rattle.c_tokens.specs.declared.pieces.Context.TheVariants.{Fresh, Hash, Include, Later}
use Rattle.c_tokens.specs.Languages.{IsMember, may_stand, IsPiece, IsLiteral, IsComment, is_punctuator}
use Rattle.c_tokens.proofs.Scanned.{is_identifier, is_number, is_literal, is_header_name, is_comment, is_white_space, may_be_header, is_piece}
use Rattle.c_tokens.proofs.Productions.{or_left, or_right, identifier_is, scans_number, scans_comment, scans_blanks, scans_line_end}
use Rattle.c_tokens.proofs.QuotedProductions.{scans_constant, scans_string, scans_header}

as_identifier : (context : Context) (w : List ℕ) → is_identifier w ≡ true → is_piece context w ≡ true
as_identifier context w e = or_left _ _ (or_left _ _ (or_left _ _ (or_left _ _ (or_left _ _ (or_left _ _ e)))))

as_number : (context : Context) (w : List ℕ) → is_number w ≡ true → is_piece context w ≡ true
as_number context w e = or_left _ _ (or_left _ _ (or_left _ _ (or_left _ _ (or_left _ _ (or_right (is_identifier w) _ e)))))

as_literal : (context : Context) (w : List ℕ) → is_literal w ≡ true → is_piece context w ≡ true
as_literal context w e = or_left _ _ (or_left _ _ (or_left _ _ (or_left _ _ (or_right (is_identifier w || is_number w) _ e))))

as_header : (w : List ℕ) → is_header_name w ≡ true → is_piece Include w ≡ true
as_header w e = or_left _ _ (or_left _ _ (or_left _ _ (or_right (is_identifier w || is_number w || is_literal w) _ e)))

as_punctuator : (context : Context) (w : List ℕ) → is_punctuator w ≡ true → is_piece context w ≡ true
as_punctuator context w e = or_left _ _ (or_left _ _ (or_right (is_identifier w || is_number w || is_literal w || (may_be_header context && is_header_name w)) _ e))

as_comment : (context : Context) (w : List ℕ) → is_comment w ≡ true → is_piece context w ≡ true
as_comment context w e = or_left _ _ (or_right (is_identifier w || is_number w || is_literal w || (may_be_header context && is_header_name w) || is_punctuator w) _ e)

as_white : (context : Context) (w : List ℕ) → is_white_space w ≡ true → is_piece context w ≡ true
as_white context w e = or_right (is_identifier w || is_number w || is_literal w || (may_be_header context && is_header_name w) || is_punctuator w || is_comment w) _ e

header_stands : (context : Context) (w : List ℕ) → may_stand (Token HeaderName) context ≡ true → is_header_name w ≡ true → is_piece context w ≡ true
header_stands Include w e h = as_header w h
header_stands Fresh w e h = cc e
header_stands Hash w e h = cc e
header_stands Later w e h = cc e

scans_piece : (class : Class) (context : Context) (w : List ℕ) → may_stand class context ≡ true → IsMember class w → is_piece context w ≡ true
scans_piece Blank context w e m = as_white context w (scans_blanks w m)
scans_piece LineEnd context w e m = as_white context w (scans_line_end w m)
scans_piece Comment context w e m = as_comment context w (scans_comment w m)
scans_piece OpenComment context w e m = absurd m
scans_piece (OpenLiteral kind) context w e m = absurd m
scans_piece (Token Ident) context w e m = as_identifier context w (identifier_is w ∙ m)
scans_piece (Token Number) context w e m = as_number context w (scans_number w m)
scans_piece (Token Char) context w e m = as_literal context w (scans_constant w m)
scans_piece (Token Str) context w e m = as_literal context w (scans_string w m)
scans_piece (Token HeaderName) context w e m = header_stands context w e (scans_header w m)
scans_piece (Token Punct) context w e m = as_punctuator context w m
scans_piece (Token Stray) context w e m = absurd m

refuted : (b : Bool) → b ≡ false → b ≡ true → ⊥
refuted true e f = cc e
refuted false e f = cc f

pub no_piece : (context : Context) (w : List ℕ) → is_piece context w ≡ false → ¬ IsPiece context w
no_piece context w e p = refuted (is_piece context w) e (scans_piece p.0 context w p.1 p.2)

pub no_literal : (w : List ℕ) → is_literal w ≡ false → ¬ IsLiteral w
no_literal w e l = refuted (is_literal w) e (elim l [ inl c ↦ scans_constant w c | inr s ↦ scans_string w s ])

pub no_comment : (w : List ℕ) → is_comment w ≡ false → ¬ IsComment w
no_comment w e c = refuted (is_comment w) e (scans_comment w c)
