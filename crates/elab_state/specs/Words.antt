-- The keywords among declaration specifiers and qualifiers (ISO C11 6.7.1 to 6.7.4).
use Rattle.std.specs.Prelude.{ℕ, List, [], ◌∷◌, bytes_eq, codes, if◌then◌else◌}
use Rattle.elab_state.specs.declared.words.Word.{Word}
use Rattle.elab_state.specs.declared.words.Word.TheVariants as word

unfoldable pub words : List (List ℕ × Word)
words =
    (codes "int", word.Int) ∷ (codes "char", word.Char) ∷ (codes "void", word.Void) ∷ (codes "const", word.Const)
    ∷ (codes "unsigned", word.Unsigned) ∷ (codes "static", word.Static) ∷ (codes "long", word.Long) ∷ (codes "double", word.Double)
    ∷ (codes "short", word.Short) ∷ (codes "float", word.Float) ∷ (codes "signed", word.Signed) ∷ (codes "typedef", word.Typedef)
    ∷ (codes "extern", word.Extern) ∷ (codes "inline", word.Inline) ∷ (codes "volatile", word.Volatile) ∷ (codes "restrict", word.Restrict)
    ∷ (codes "_Bool", word.Bool) ∷ (codes "register", word.Register) ∷ (codes "auto", word.Auto) ∷ (codes "_Noreturn", word.Noreturn)
    ∷ (codes "_Thread_local", word.ThreadLocal) ∷ (codes "_Atomic", word.Atomic) ∷ (codes "_Complex", word.Complex)
    ∷ (codes "_Imaginary", word.Imaginary) ∷ []

abbrev pub lookup : List (List ℕ × Word) → List ℕ → Word
lookup [] text = word.Other
lookup (e ∷ es) text = if bytes_eq e.0 text then e.1 else lookup es text

unfoldable pub word_of : List ℕ → Word
word_of = lookup words
