-- The refusals: of each what is wrong, and what to do. Made by docs/refusals.py.
use Rattle.std.specs.Prelude.{ℕ, ◌==◌, List, Option, Some, None, codes, if◌then◌else◌}

-- what is wrong, where there is a refusal of this number
abbrev pub refusal_text : ℕ → Option (List ℕ)
refusal_text number =
    if number == 1 then Some (codes "there is no instruction") else (
    if number == 2 then Some (codes "the length in bytes is no multiple of 8") else (
    if number == 3 then Some (codes "the program has more than 4096 slots") else (
    if number == 4 then Some (codes "no instruction has this opcode with these fields") else (
    if number == 5 then Some (codes "a register over 10 is used") else (
    if number == 6 then Some (codes "a field that the instruction does not use is not zero") else (
    if number == 7 then Some (codes "the second slot of a wide load is missing") else (
    if number == 11 then Some (codes "no instruction has this word") else (
    if number == 12 then Some (codes "the operands are not those of the word") else (
    if number == 13 then Some (codes "a number or a register is out of range") else (
    if number == 21 then Some (codes "a jump leads out of the program") else (
    if number == 22 then Some (codes "a jump leads into the middle of a wide load") else (
    if number == 23 then Some (codes "a path leads back to where it has been: there is a loop") else (
    if number == 24 then Some (codes "the program may run past its end") else (
    if number == 25 then Some (codes "no path leads to an instruction") else (
    if number == 31 then Some (codes "a register is read that may be unset") else (
    if number == 32 then Some (codes "an access may leave the 512 bytes of the stack") else (
    if number == 33 then Some (codes "an access may leave the bytes of the part that the program needs") else (
    if number == 34 then Some (codes "a number where a pointer has to be, or a pointer for a number") else (
    if number == 35 then Some (codes "a pointer may go too far from its region") else (
    if number == 36 then Some (codes "r10 is written") else (
    if number == 37 then Some (codes "no helper has this number") else (
    if number == 38 then Some (codes "the need is over 65536 bytes") else (
    if number == 41 then Some (codes "nothing is held: no program, no job or no desk") else (
    if number == 42 then Some (codes "the credit is under the program's cost") else (
    if number == 43 then Some (codes "the memory is too short, or not as long as at the start") else (
    if number == 44 then Some (codes "the id of a host's helper is none of 64 to 127") else (
    if number == 45 then Some (codes "a helper takes more than 5 arguments") else (
    if number == 46 then Some (codes "a program is set already") else (
    if number == 47 then Some (codes "the task has ended, or there is none") else (
    if number == 48 then Some (codes "the program may call the host's helpers, and is run without a task") else (
    if number == 51 then Some (codes "the job has no such task") else (
    if number == 52 then Some (codes "more is used than the task holds") else (
    if number == 53 then Some (codes "the share is over the credit that the task holds") else (
    if number == 61 then Some (codes "the job has no program") else (
    if number == 62 then Some (codes "the job has more than 16 programs") else (
    if number == 63 then Some (codes "the credit is under the cost of the root") else (
    if number == 64 then Some (codes "the buffer is shorter than the need of the root") else (
    if number == 65 then Some (codes "a length or a credit is over its limit, or a room is too short") else (
    if number == 71 then Some (codes "a frame is over 1048576 bytes") else (
    if number == 72 then Some (codes "this is no JSON") else (
    if number == 73 then Some (codes "there is no such request, or a text is not UTF-8 or hexadecimal") else (
    if number == 74 then Some (codes "there is no such tenant here") else (
    if number == 75 then Some (codes "the credit is over the tenant's balance") else (
    if number == 76 then Some (codes "there is no such job, or it is forgotten") else (
    if number == 77 then Some (codes "the job is not complete") else (
    if number == 78 then Some (codes "there is no such connection") else (
    if number == 81 then Some (codes "the job failed: no thread could start, or too many jobs were open") else (
    if number == 82 then Some (codes "the job failed: its report does not add up to its credit") else (
    if number == 83 then Some (codes "the input could not be read") else (
    if number == 84 then Some (codes "the output could not be written") else (
    if number == 99 then Some (codes "out of memory") else (
    None))))))))))))))))))))))))))))))))))))))))))))))))))))

-- what to do, where there is a refusal of this number
abbrev pub refusal_help : ℕ → Option (List ℕ)
refusal_help number =
    if number == 1 then Some (codes "write one at least: the shortest program is `mov64 r0, 0` and `exit`") else (
    if number == 2 then Some (codes "give the program's slots alone, of 8 bytes each; of an ELF object that is its section `.text`") else (
    if number == 3 then Some (codes "make several programs of it, of at most 4096 slots each") else (
    if number == 4 then Some (codes "use the groups base and divmul; atomics, packet loads, maps and calls into the program are left out") else (
    if number == 5 then Some (codes "use r0 to r10") else (
    if number == 6 then Some (codes "set the fields to zero that the instruction does not use") else (
    if number == 7 then Some (codes "let the second slot follow: `lddw` takes 16 bytes") else (
    if number == 11 then Some (codes "write a word of the table, such as `mov64`, `ldxb` or `jeq32`, in lower case, and one space behind it") else (
    if number == 12 then Some (codes "write them as the table does, with decimal numbers: `mov64 r0, 16`, `ldxb r0, [r1+0]`, `jeq r0, 0, +2`") else (
    if number == 13 then Some (codes "use r0 to r10, offsets of 16 bits and numbers of 32; `lddw` takes a number of 64") else (
    if number == 21 then Some (codes "let it lead to an instruction: an offset counts slots from the next one on") else (
    if number == 22 then Some (codes "count two slots for `lddw`, and jump to the first") else (
    if number == 23 then Some (codes "write the rounds one behind the other; loops are left out by design, so that each run ends") else (
    if number == 24 then Some (codes "end each path by `exit` or by a jump") else (
    if number == 25 then Some (codes "take it out, or let a jump lead there") else (
    if number == 31 then Some (codes "set it on each way there: r1, r2, r3 and r10 are set at the start, and a call leaves r1 to r5 unset") else (
    if number == 32 then Some (codes "stay between r10-512 and r10-1: `[r10-8]` has the last 8 bytes") else (
    if number == 33 then Some (codes "verify with a larger need, or let a jump test the index ahead of the access") else (
    if number == 34 then Some (codes "take addresses from r1 or r10, keep pointers out of memory and of r0 at `exit`, and lengths at most 512") else (
    if number == 35 then Some (codes "let a jump test the number first: a pointer goes at most 1048576 bytes from its region's first") else (
    if number == 36 then Some (codes "change a copy: `mov64 r2, r10`, and then `add64 r2, -8`") else (
    if number == 37 then Some (codes "call 1 to 5, or a helper of 64 to 127 that the host registered") else (
    if number == 38 then Some (codes "need at most 65536 bytes") else (
    if number == 41 then Some (codes "load the program, open the job or make the desk first, and look whether that was refused") else (
    if number == 42 then Some (codes "give as much as the verdict says that the program costs") else (
    if number == 43 then Some (codes "give as many bytes as the program needs; a task that goes on wants the length that it began with") else (
    if number == 44 then Some (codes "register it by an id of 64 to 127") else (
    if number == 45 then Some (codes "take at most 5 arguments, which are r1 to r5") else (
    if number == 46 then Some (codes "register helpers before a program is set") else (
    if number == 47 then Some (codes "start another task") else (
    if number == 48 then Some (codes "start a task of it, which stops where it asks its host") else (
    if number == 51 then Some (codes "tell the makers: no job comes to it") else (
    if number == 52 then Some (codes "tell the makers: no job comes to it") else (
    if number == 53 then Some (codes "tell the makers: no job comes to it") else (
    if number == 61 then Some (codes "give 1 to 16 programs, of which the first is the root's") else (
    if number == 62 then Some (codes "give 1 to 16 programs") else (
    if number == 63 then Some (codes "give as much as the verdict says that program 0 costs, and more for what it spawns") else (
    if number == 64 then Some (codes "give as many bytes as program 0 needs, and more for what it spawns") else (
    if number == 65 then Some (codes "give at most 65536 bytes and a credit of 2147483647, and as much room as the length tells") else (
    if number == 71 then Some (codes "send shorter requests over a new connection") else (
    if number == 72 then Some (codes "write one JSON object in UTF-8, without a byte order mark") else (
    if number == 73 then Some (codes "write requests as docs/protocol.md has them, sources in UTF-8, and bytes as pairs of hexadecimal digits") else (
    if number == 74 then Some (codes "name a tenant with an account, at its own socket if it has one") else (
    if number == 75 then Some (codes "ask for less, or have more granted") else (
    if number == 76 then Some (codes "ask by the number that the submit was answered, while the report is kept") else (
    if number == 77 then Some (codes "ask again once its status says that it is") else (
    if number == 78 then Some (codes "begin a conversation first, and use none that has ended") else (
    if number == 81 then Some (codes "submit it again later: its credit is back in the balance") else (
    if number == 82 then Some (codes "look at who ran it: a report has to tell all of the credit as spent or returned") else (
    if number == 83 then Some (codes "look whether the file is there and may be read, or whether the other end is gone") else (
    if number == 84 then Some (codes "look whether there is room and whether the other end still reads") else (
    if number == 99 then Some (codes "ask again when there is more memory: nothing has changed") else (
    None))))))))))))))))))))))))))))))))))))))))))))))))))))
