-- The most files, the most bytes of one text, and the most bytes of all texts, which are tested where a text comes in.
use Rattle.std.specs.Prelude.{ℕ}

abbrev pub most_files : ℕ
most_files = 4096

abbrev pub longest_text : ℕ
longest_text = 4194304

abbrev pub most_bytes : ℕ
most_bytes = 67108864

-- the most bytes of a name that is put in place of another
abbrev pub longest_name : ℕ
longest_name = 1023

-- The most bytes of a text that is kept, whatever was tested: those of the longest text with a name of 1,023 bytes in place of
-- each byte.
abbrev pub longest_kept : ℕ
longest_kept = 4290772992
