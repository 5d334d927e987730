-- The tests of Marks, as a mark tells them of its text.
use Rattle.std.specs.Prelude.{Bool, true, false}
use Rattle.item_cut.specs.declared.marks.Mark.{Mark}
use Rattle.item_cut.specs.declared.marks.Mark.TheVariants.{OpenParen, OpenBracket, OpenBrace, CloseParen, CloseBracket, CloseBrace, Semicolon, Comma, Equals}

abbrev pub is_opening : Mark → Bool
is_opening OpenParen = true
is_opening OpenBracket = true
is_opening OpenBrace = true
is_opening _ = false

abbrev pub is_closing : Mark → Bool
is_closing CloseParen = true
is_closing CloseBracket = true
is_closing CloseBrace = true
is_closing _ = false

abbrev pub is_open_brace : Mark → Bool
is_open_brace OpenBrace = true
is_open_brace _ = false

abbrev pub is_close_brace : Mark → Bool
is_close_brace CloseBrace = true
is_close_brace _ = false

abbrev pub is_close_paren : Mark → Bool
is_close_paren CloseParen = true
is_close_paren _ = false

abbrev pub is_semicolon : Mark → Bool
is_semicolon Semicolon = true
is_semicolon _ = false

abbrev pub is_equals : Mark → Bool
is_equals Equals = true
is_equals _ = false

abbrev pub is_name_end : Mark → Bool
is_name_end OpenParen = true
is_name_end OpenBracket = true
is_name_end OpenBrace = true
is_name_end Semicolon = true
is_name_end Comma = true
is_name_end Equals = true
is_name_end _ = false
