-- What a word NAME=PATH and a line NAME PATH of a file say of a tenant.
use Rattle.std.specs.Prelude.{◌==◌, ◌||◌, ◌&&◌, ℕ, Bool, not, nat_le, true, List, [], ◌∷◌, codes, length, drop, if◌then◌else◌, Option, Some, None}
use Rattle.std.specs.Char.{is_ascii_digit}
use Rattle.std.specs.List.{list_all}
use Rattle.std.specs.Str.{bytes_eq}
use Rattle.std.specs.Str.Parse.{digits_value}
use Rattle.bpfjobs_cli.specs.declared.tenant_text.Delimiter.{Delimiter}
use Rattle.bpfjobs_cli.specs.declared.tenant_text.Delimiter.TheVariants.{Equals, Blank, LineEnd, Comma, Star}
use Rattle.bpfjobs_cli.specs.declared.tenant_text.Said.{Said}
use Rattle.bpfjobs_cli.specs.declared.tenant_text.Said.TheVariants as said
use Rattle.bpfjobs_cli.specs.declared.tenant_text.Setting.{Setting}
use Rattle.bpfjobs_cli.specs.declared.tenant_text.Setting.TheVariants as setting
use Rattle.bpfjobs_cli.specs.declared.tenant_socket.TenantSettings.{TenantSettings}

-- `=`; a space, a tab or a carriage return; a line feed; `,`; `*`
abbrev pub is_delimiter : Delimiter → ℕ → Bool
is_delimiter Equals c = c == 61
is_delimiter Blank c = c == 32 || (c == 9 || c == 13)
is_delimiter LineEnd c = c == 10
is_delimiter Comma c = c == 44
is_delimiter Star c = c == 42

-- the part before the first delimiter, and the part from it on
abbrev pub before_delimiter : Delimiter → List ℕ → List ℕ
before_delimiter d [] = []
before_delimiter d (c ∷ cs) = if is_delimiter d c then [] else c ∷ before_delimiter d cs

abbrev pub from_delimiter : Delimiter → List ℕ → List ℕ
from_delimiter d [] = []
from_delimiter d (c ∷ cs) = if is_delimiter d c then c ∷ cs else from_delimiter d cs

-- without the blanks at its start
abbrev pub past_blanks : List ℕ → List ℕ
past_blanks [] = []
past_blanks (c ∷ cs) = if is_delimiter Blank c then past_blanks cs else c ∷ cs

-- it is empty, or a comment: that begins with `#`
abbrev pub is_over : List ℕ → Bool
is_over [] = true
is_over (c ∷ cs) = c == 35

-- What a text says: nothing, something else than a tenant, a tenant with no number of open jobs or
-- of its credit where it should be, or a name and a path, and what is said beside them.
pub data SaidText : Type 0 where
  says_nothing : SaidText
  says_other : SaidText
  says_no_jobs : SaidText
  says_no_credit : SaidText
  says_tenant : List ℕ → List ℕ → TenantSettings → SaidText

abbrev pub said_by : Said → SaidText
said_by said.Nothing = says_nothing
said_by said.Other = says_other
said_by said.NoJobs = says_no_jobs
said_by said.NoCredit = says_no_credit
said_by (said.Tenant name path settings) = says_tenant name.now path.now settings

-- a word: the name ends at the first `=`
unfoldable pub word_says : List ℕ → SaidText
word_says word = if length (from_delimiter Equals word) == 0 then says_other
    else says_tenant (before_delimiter Equals word) (drop 1 (from_delimiter Equals word))
    (record { open_jobs = None; credit = None })

-- the number that digits write, where it is from low to high
unfoldable pub number_said : ℕ → ℕ → List ℕ → Option ℕ
number_said low high digits =
    if length digits == 0 then None
    else if list_all is_ascii_digit digits
    && (nat_le (digits_value 10 digits) high && nat_le low (digits_value 10 digits))
    then Some (digits_value 10 digits) else None

-- the next part of a line, between blanks, and what begins behind it
abbrev pub part : List ℕ → List ℕ
part text = before_delimiter Blank text

abbrev pub next_part : List ℕ → List ℕ
next_part text = past_blanks (from_delimiter Blank text)

-- a number, or none where one should be
abbrev pub setting_of : Option ℕ → Setting
setting_of None = setting.Wrong
setting_of (Some n) = setting.Number n

-- the number that stands behind a word at the front of a text, and what begins behind both
unfoldable pub setting_at : List ℕ → ℕ → ℕ → List ℕ → Setting
setting_at word low high text =
    if bytes_eq (part text) word then setting_of (number_said low high (part (next_part text)))
    else setting.LeftOut

unfoldable pub behind_setting : List ℕ → List ℕ → List ℕ
behind_setting word text =
    if bytes_eq (part text) word then next_part (next_part text) else text

-- a tenant with what is said beside its name and its path
abbrev pub says_credit : List ℕ → List ℕ → Option ℕ → Setting → SaidText
says_credit name path jobs setting.LeftOut =
    says_tenant name path (record { open_jobs = jobs; credit = None })
says_credit name path jobs setting.Wrong = says_no_credit
says_credit name path jobs (setting.Number credit) =
    says_tenant name path (record { open_jobs = jobs; credit = Some credit })

abbrev pub says_settings : List ℕ → List ℕ → Setting → Setting → SaidText
says_settings name path setting.LeftOut credit = says_credit name path None credit
says_settings name path setting.Wrong credit = says_no_jobs
says_settings name path (setting.Number jobs) credit = says_credit name path (Some jobs) credit

-- behind a name and a path may stand `open-jobs` and a number, and then `credit` and a number
unfoldable pub says_behind : List ℕ → List ℕ → List ℕ → SaidText
says_behind name path rest =
    let behind = behind_setting (codes "open-jobs") rest in
    if not (is_over (behind_setting (codes "credit") behind)) then says_other
    else says_settings name path (setting_at (codes "open-jobs") 0 1000000 rest)
    (setting_at (codes "credit") 1 2147483647 behind)

-- a line: its parts have no blank, and a comment may be behind them
unfoldable pub line_says : List ℕ → SaidText
line_says line =
    let start = past_blanks line in
    if is_over start then says_nothing
    else if is_over (next_part start) then says_other
    else says_behind (part start) (part (next_part start)) (next_part (next_part start))
