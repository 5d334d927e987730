-- The library headers (ISO C11 7): their names, and their texts, which stand in src/texts.rt.
use Rattle.std.specs.Prelude.{ℕ, List, [], ◌∷◌, map, Option, option_map, bytes_eq, codes}
use Rattle.std.specs.List.{find}
use Rattle.lib_texts.specs.declared.Header.{Header}
use Rattle.lib_texts.specs.declared.Header.TheVariants.{Stddef, Stdint, Stdbool, Stdalign, Stdnoreturn, Iso646, Limits, Stdarg, Stdio, Stdlib, StringH, Ctype, Errno, Assert}
use Rattle.lib_texts.specs.declared.texts.TheConstants.{STDDEF, STDINT, STDBOOL, STDALIGN, STDNORETURN, ISO646, LIMITS, STDARG, STDIO, STDLIB, STRING, CTYPE, ERRNO, ASSERT}

unfoldable pub headers : List (List ℕ × Header)
headers =
    (codes "stddef.h", Stddef)
    ∷ (codes "stdint.h", Stdint)
    ∷ (codes "stdbool.h", Stdbool)
    ∷ (codes "stdalign.h", Stdalign)
    ∷ (codes "stdnoreturn.h", Stdnoreturn)
    ∷ (codes "iso646.h", Iso646)
    ∷ (codes "limits.h", Limits)
    ∷ (codes "stdarg.h", Stdarg)
    ∷ (codes "stdio.h", Stdio)
    ∷ (codes "stdlib.h", Stdlib)
    ∷ (codes "string.h", StringH)
    ∷ (codes "ctype.h", Ctype)
    ∷ (codes "errno.h", Errno)
    ∷ (codes "assert.h", Assert) ∷ []

unfoldable pub names : List (List ℕ)
names = map (λ e. e.0) headers

-- the header of a name
unfoldable pub header_named : List ℕ → Option Header
header_named name = option_map (λ e. e.1) (find (λ e. bytes_eq e.0 name) headers)

abbrev pub text_of : Header → List ℕ
text_of Stddef = STDDEF.now
text_of Stdint = STDINT.now
text_of Stdbool = STDBOOL.now
text_of Stdalign = STDALIGN.now
text_of Stdnoreturn = STDNORETURN.now
text_of Iso646 = ISO646.now
text_of Limits = LIMITS.now
text_of Stdarg = STDARG.now
text_of Stdio = STDIO.now
text_of Stdlib = STDLIB.now
text_of StringH = STRING.now
text_of Ctype = CTYPE.now
text_of Errno = ERRNO.now
text_of Assert = ASSERT.now

-- the text of the header that has this name
abbrev pub library : List ℕ → Option (List ℕ)
library name = option_map text_of (header_named name)
