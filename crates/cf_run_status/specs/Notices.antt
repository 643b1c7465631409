-- The exit code of the program, and what it says on standard error.
use Rattle.std.specs.Prelude.{ℕ, Bool, true, false, if◌then◌else◌, List, [], ◌∷◌, ◌++◌, codes, decimal}
use Rattle.cf_run_status.specs.declared.status.Status.{Status}
use Rattle.cf_run_status.specs.declared.status.Status.TheVariants as status

abbrev pub code_of : Status → ℕ
code_of status.Ok = 0
code_of status.BadWords = 2
code_of (status.ChartRefused fault) = 3
code_of status.ReadFault = 4
code_of status.WriteFault = 5
code_of status.DiskFault = 6
code_of (status.NotFounded len byte) = 7
code_of (status.AlreadyFounded len byte) = 8
code_of (status.Damaged offset refusal) = 9
code_of status.DoorFault = 10
code_of status.InputLimit = 11
code_of status.NoMemory = 12
code_of (status.NoShare sum) = 13
code_of (status.OtherChart at) = 14
code_of (status.Gap from length) = 15
code_of (status.StreamFault offset) = 16
code_of (status.Forked place) = 17
code_of (status.EntryRefused place refusal) = 18
code_of (status.GrantRefused fault) = 19

abbrev pub text_of : Status → List ℕ
text_of status.Ok = []
text_of status.BadWords = codes "bad words"
text_of (status.ChartRefused fault) = codes "chart refused"
text_of status.ReadFault = codes "read fault"
text_of status.WriteFault = codes "write fault"
text_of status.DiskFault = codes "disk fault"
text_of (status.NotFounded len byte) = codes "not founded"
text_of (status.AlreadyFounded len byte) = codes "already founded"
text_of (status.Damaged offset refusal) = codes "damaged"
text_of status.DoorFault = codes "door fault"
text_of status.InputLimit = codes "input limit"
text_of status.NoMemory = codes "no memory"
text_of (status.NoShare sum) = codes "no share"
text_of (status.OtherChart at) = codes "other chart"
text_of (status.Gap from length) = codes "gap"
text_of (status.StreamFault offset) = codes "stream fault"
text_of (status.Forked place) = codes "forked"
text_of (status.EntryRefused place refusal) = codes "entry refused"
text_of (status.GrantRefused fault) = codes "grant refused"

-- the place of the damage, which the notice names
abbrev pub place_of : Status → List ℕ
place_of (status.Damaged offset refusal) = codes " at " ++ decimal offset
place_of s = []

-- a line after the program's name
abbrev pub line_of : Status → List ℕ
line_of s = codes "cityfund: " ++ (text_of s ++ (place_of s ++ 10 ∷ []))

abbrev pub is_fine : Status → Bool
is_fine status.Ok = true
is_fine s = false

-- nothing where all went well
abbrev pub notice_of : Status → List ℕ
notice_of s = if is_fine s then [] else line_of s
