-- The lines of a server's log, as text: JSON for each event, or plain words for the notes alone.
use Rattle.std.specs.Prelude.{◌≡◌, flat_map, map, nat_lt, ℕ, Bool, true, false, List, [], ◌++◌, codes, string_bytes, Option, Some, None, ◌==◌, if◌then◌else◌}
use Rattle.std.specs.Fmt.{decimal}
use Rattle.serde_json.specs.Data.{string}
use Rattle.serde_json.specs.Written.{compact_text}
use Rattle.shared_desk.specs.Doors.{door_text}
use Rattle.server_log.specs.declared.log_line.ConnectionEnd.{ConnectionEnd}
use Rattle.server_log.specs.declared.log_line.ConnectionEnd.TheVariants.{Input, Stopped, TooLarge, ReadTimeout, ReadCut, WriteTimeout, WriteCut, Journal, NoMemory}
use Rattle.server_log.specs.declared.log_line.LogEvent.{LogEvent}
use Rattle.server_log.specs.declared.log_line.LogEvent.TheVariants.{Ready, Stopping, JournalFailed, Opened, Closed, Started, Ended, Failed, Refused, Granted, Note, Lost}
use Rattle.server_log.specs.declared.log_line.LogForm.{LogForm}
use Rattle.server_log.specs.declared.log_line.LogForm.TheVariants.{Json, Notes}
use Rattle.server_log.specs.declared.log_line.LogLine.{LogLine}

-- the number of the refusal, and 0 where there is none
abbrev pub ending_code : ConnectionEnd → ℕ
ending_code Input = 0
ending_code Stopped = 0
ending_code TooLarge = 71
ending_code ReadTimeout = 83
ending_code ReadCut = 83
ending_code WriteTimeout = 84
ending_code WriteCut = 84
ending_code Journal = 84
ending_code NoMemory = 99

abbrev pub ending_text : ConnectionEnd → List ℕ
ending_text Input = codes "input"
ending_text Stopped = codes "stopped"
ending_text TooLarge = codes "frame too large"
ending_text ReadTimeout = codes "timeout"
ending_text ReadCut = codes "cut"
ending_text WriteTimeout = codes "timeout"
ending_text WriteCut = codes "cut"
ending_text Journal = codes "journal"
ending_text NoMemory = codes "memory"

-- what happened: a word of ours, numbers, the name that a tenant has in the configuration, and the
-- words of a note
abbrev pub event_text : LogEvent → List ℕ
event_text Ready = codes "\"ready\",\"version\":\"0.1.0\""
event_text Stopping = codes "\"stopping\""
event_text JournalFailed = codes "\"journal failed\""
event_text (Opened connection by) =
    codes "\"opened\",\"connection\":" ++ (decimal connection
    ++ (codes ",\"socket\":\"" ++ (door_text by ++ codes "\"")))
event_text (Closed connection requests end ms) =
    codes "\"closed\",\"connection\":" ++ (decimal connection
    ++ (codes ",\"requests\":" ++ (decimal requests
    ++ (codes ",\"code\":" ++ (decimal (ending_code end)
    ++ (codes ",\"end\":\"" ++ (ending_text end
    ++ (codes "\",\"ms\":" ++ decimal ms))))))))
event_text (Started job None credit programs wait) =
    codes "\"started\",\"job\":" ++ (decimal job
    ++ (codes ",\"credit\":" ++ (decimal credit
    ++ (codes ",\"programs\":" ++ (decimal programs
    ++ (codes ",\"wait\":" ++ decimal wait))))))
event_text (Started job (Some connection) credit programs wait) =
    codes "\"started\",\"job\":" ++ (decimal job
    ++ (codes ",\"connection\":" ++ (decimal connection
    ++ (codes ",\"credit\":" ++ (decimal credit
    ++ (codes ",\"programs\":" ++ (decimal programs
    ++ (codes ",\"wait\":" ++ decimal wait))))))))
event_text (Ended job spent returned tasks buffer ms) =
    codes "\"ended\",\"job\":" ++ (decimal job
    ++ (codes ",\"spent\":" ++ (decimal spent
    ++ (codes ",\"returned\":" ++ (decimal returned
    ++ (codes ",\"tasks\":" ++ (decimal tasks
    ++ (codes ",\"buffer\":" ++ (decimal buffer
    ++ (codes ",\"ms\":" ++ decimal ms))))))))))
event_text (Failed job code) =
    codes "\"failed\",\"job\":" ++ (decimal job ++ (codes ",\"code\":" ++ decimal code))
event_text (Refused connection code) =
    codes "\"refused\",\"connection\":" ++ (decimal connection
    ++ (codes ",\"code\":" ++ decimal code))
event_text (Granted connection None amount balance) =
    codes "\"granted\",\"connection\":" ++ (decimal connection
    ++ (codes ",\"amount\":" ++ (decimal amount
    ++ (codes ",\"balance\":" ++ decimal balance))))
event_text (Granted connection (Some tenant) amount balance) =
    codes "\"granted\",\"connection\":" ++ (decimal connection
    ++ (codes ",\"tenant\":\"" ++ (string_bytes tenant
    ++ (codes "\",\"amount\":" ++ (decimal amount
    ++ (codes ",\"balance\":" ++ decimal balance))))))
event_text (Note text) = codes "\"note\",\"text\":" ++ compact_text (string (string_bytes text))
event_text Lost = codes "\"lost\""

-- how many lines were lost, if any were
abbrev pub lost_text : ℕ → List ℕ
lost_text lost = if lost == 0 then [] else codes ",\"lost\":" ++ decimal lost

-- a JSON object, and the line's end
abbrev pub json_line : LogLine → List ℕ
json_line line =
    codes "{\"time\":" ++ (decimal line.time
    ++ (codes ",\"event\":" ++ (event_text line.event
    ++ (lost_text line.lost ++ codes "}\n"))))

-- the words that an event tells the host, if it does
abbrev pub note_of : LogEvent → Option (List ℕ)
note_of Ready = None
note_of Stopping = None
note_of JournalFailed = None
note_of (Opened connection by) = None
note_of (Closed connection requests end ms) = None
note_of (Started job connection credit programs wait) = None
note_of (Ended job spent returned tasks buffer ms) = None
note_of (Failed job code) = None
note_of (Refused connection code) = None
note_of (Granted connection tenant amount balance) = None
note_of (Note text) = Some (string_bytes text)
note_of Lost = None

-- A byte of a plain line. A control character, such as the end of a line, is a space there.
abbrev pub plain_byte : ℕ → ℕ
plain_byte byte = if nat_lt byte 32 then 32 else byte

-- a note as a line of its own, and nothing of other events
abbrev pub plain_note : Option (List ℕ) → List ℕ
plain_note None = []
plain_note (Some text) = codes "bpfjobs: " ++ (map plain_byte text ++ codes "\n")

-- how many lines were lost, as a line of its own, if any were
abbrev pub plain_lost : ℕ → List ℕ
plain_lost lost = if lost == 0 then [] else codes "bpfjobs: " ++ (decimal lost ++ codes " lines lost\n")

-- a line in the form of its log: what was lost stands ahead of a note
abbrev pub log_text : LogForm → LogLine → List ℕ
log_text Json line = json_line line
log_text Notes line = plain_lost line.lost ++ plain_note (note_of line.event)

-- whether a log of this form has lines of what clients do
abbrev pub tells_clients : LogForm → Bool
tells_clients Json = true
tells_clients Notes = false

-- whole lines, one after the other
abbrev pub AreLogLines : LogForm → List ℕ → Type 0
AreLogLines form text = (lines : List LogLine) × (text ≡ flat_map (log_text form) lines)
