-- The text in which tokens are placed, and what is at hand of it.
use Rattle.std.specs.Prelude.{◌≡◌, ◌≤◌, ℕ, List, length, Option, None, Some}
use Rattle.doc_texts.specs.Texts.{Texts}
use Rattle.plain_mean.specs.Given.{text_in}
use Rattle.plain_mean.specs.Lexing.{IsLexed}
use Rattle.text_lines.specs.declared.encoding.Encoding.{Encoding}
use Rattle.uri_paths.specs.Paths.{path_read}
use Rattle.c_session.specs.Places.{uri_for}
use Rattle.c_session.specs.declared.located.AtHand.{AtHand}
use Rattle.c_session.specs.declared.located.Opened.{Opened}

-- It is the file at this path.
pub record IsOpened (texts : Texts) (counting : Encoding) (at : List ℕ) (file : Opened) : Type 0 where
  pub path : file.path ≡ at
  pub uri : file.uri ≡ uri_for texts at
  pub text : file.text.now ≡ text_in texts at
  pub short : length file.text.now ≤ 4290772992
  pub lexed : IsLexed (text_in texts at) file.lexed
  pub walked : file.walk.text ≡ text_in texts at
  pub encoding : file.walk.encoding ≡ counting

-- Its name is that of no path, or that of this file.
abbrev pub IsFileOf : Texts → Encoding → Option (List ℕ) → Option Opened → Type 0
IsFileOf texts encoding path None = path ≡ None
IsFileOf texts encoding path (Some file) = (path ≡ Some file.path) × IsOpened texts encoding file.path file

abbrev pub IsAtHand : Texts → Encoding → AtHand → Type 0
IsAtHand texts encoding hand = IsFileOf texts encoding (path_read hand.name) hand.file
