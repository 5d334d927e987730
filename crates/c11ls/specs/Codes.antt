-- The exit status of the process, and the line on the error sink, for each status.
use Rattle.std.specs.Prelude.{ℕ, List, [], ◌∷◌, ◌++◌, codes, decimal}
use Rattle.lsp_framing.specs.Kinds.{kind_name}
use Rattle.c11ls.specs.declared.status.Status.{Status}
use Rattle.c11ls.specs.declared.status.Status.TheVariants.{Done, Unclean, Usage, BadFrame, ReadFault, WriteFault, StoreFault, NoMemory, LongInput}

abbrev pub code_of : Status → ℕ
code_of Done = 0
code_of Unclean = 1
code_of Usage = 2
code_of (BadFrame place kind) = 3
code_of ReadFault = 4
code_of WriteFault = 5
code_of StoreFault = 6
code_of NoMemory = 7
code_of LongInput = 8

-- the line on the error sink, with its LF; none for the first two
abbrev pub line_of : Status → List ℕ
line_of Done = []
line_of Unclean = []
line_of Usage = codes "c11ls: usage: c11ls [--include LIST] [--define LIST] [--generate N]" ++ 10 ∷ []
line_of (BadFrame place kind) = (codes "c11ls: bad frame at byte " ++ decimal place) ++ ((codes ": " ++ kind_name kind) ++ 10 ∷ [])
line_of ReadFault = codes "c11ls: read fault" ++ 10 ∷ []
line_of WriteFault = codes "c11ls: write fault" ++ 10 ∷ []
line_of StoreFault = codes "c11ls: store fault" ++ 10 ∷ []
line_of NoMemory = codes "c11ls: no memory" ++ 10 ∷ []
line_of LongInput = codes "c11ls: input too long" ++ 10 ∷ []
