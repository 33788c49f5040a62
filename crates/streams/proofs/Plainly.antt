-- A desk and a runner that plays each job at its start answer as the plain ledger does.
use Rattle.std.proofs.Common.{◌≡◌, ◌⊎◌, ◌-◌, ◌^◌, ℕ, suc, min, arith, length-append, List, [], ◌∷◌, ◌++◌, length, refl, sym, ap, ◌∙◌, subst, inl, inr, Option, Some, None, Result, Ok, Err, append_assoc, append-nil, ◌+◌}
use Rattle.std.proofs.lemmas.List.{append_cancel_left}
use Rattle.std.specs.Ordering.{nat_cmp}
use Rattle.std.specs.BTreeMap.{insert_entry}
use Rattle.serde_json.specs.Data.{Data}
use Rattle.credit_book.specs.declared.book.Report.{Report}
use Rattle.credit_book.specs.declared.board.Progress.{Progress}
use Rattle.job_core.specs.declared.admission.ProgramBytes.{ProgramBytes}
use Rattle.job_core.specs.Admitted.{AdmittedJob}
use Rattle.accounts.specs.declared.jobs.JobEntry.{JobEntry}
use Rattle.accounts.specs.declared.jobs.JobStanding.{JobStanding}
use Rattle.accounts.specs.declared.jobs.JobStanding.TheVariants.{Open, Reported, Failed}
use Rattle.accounts.specs.Jobs.{job_at}
use Rattle.accounts.specs.Ledgers.{Ledger, Finishes, progress_at}
use Rattle.sessions.specs.Frames.{Front, HasNoFrame, front, frames_of, partial, too_large, whole}
use Rattle.sessions.specs.Grammar.{Asked, grant, account, submit, status, result}
use Rattle.sessions.specs.Replies.{frame_of, reply_data}
use Rattle.sessions.proofs.Framings.{Cuts, cuts_are, cuts_one, frames_are_cut, none_cut, one_cut}
use Rattle.streams.specs.Passing.{Notes, Passes, Taken}
use Rattle.streams.specs.Passing as passing
use Rattle.streams.specs.Answering.{Answers, Grants, GrantsNone, Replies, Settles, Submits, TakesJob, progress_told}
use Rattle.streams.specs.Hearing.{by_reading}
use Rattle.streams.specs.Serves.{Serves}
use Rattle.streams.specs.Serves as serving
use Rattle.streams.specs.Stops.{EndsWith, IsCutOff, IsDue, IsGrown, IsServed, IsStoppedBy, StopsAt, ahead_of_reply, between, too_large_reply}
use Rattle.streams.specs.declared.fault.StreamFault.{StreamFault}
use Rattle.streams.specs.declared.fault.StreamFault.TheVariants.{ReadFailed, WriteFailed, NoMemory}
use Rattle.streams.proofs.Answered.{opened}
use Rattle.streams.proofs.Serving.{grows_on, serves_grow, serves_more, serves_on}
use Rattle.streams.specs.Inline.{StartsInline, TakesInline}
use Rattle.streams.specs.LedgerReplies.{AreNoted, BeginsReplies, TakesAndPlays, PlaysNone, RepliesTo, RepliesWith, WritesReplies, none_yet, one_more, unseen}

-- ---- each report can be noted

finishing : (desk : Ledger) (number : ℕ) (report : Report) (entry : JobEntry) → job_at desk.jobs number ≡ Some entry → (s : JobStanding) → entry.standing ≡ s → (next : Ledger) × Notes desk number (Ok report) next
finishing desk number report entry there Open is =
    let next : Ledger = record { grants = desk.grants; past = desk.past; jobs = _ } in
    (next, inl (record { entry = entry; was = there; opened = is; jobs = record { grants = λ q. refl; past = λ q. refl; jobs = refl } }))
finishing desk number report entry there (Reported old) is =
    (desk, inr (λ other found is_open. let same : Some other ≡ Some entry = sym found ∙ there in let clash : Open ≡ Reported old = sym is_open ∙ ap (λ o. (entry_or o entry).standing) same ∙ is in absurd cc, refl))
  where
    entry_or : Option JobEntry → JobEntry → JobEntry
    entry_or (Some e) d = e
    entry_or None d = d
finishing desk number report entry there (Failed code) is =
    (desk, inr (λ other found is_open. let same : Some other ≡ Some entry = sym found ∙ there in let clash : Open ≡ Failed code = sym is_open ∙ ap (λ o. (entry_or o entry).standing) same ∙ is in absurd cc, refl))
  where
    entry_or : Option JobEntry → JobEntry → JobEntry
    entry_or (Some e) d = e
    entry_or None d = d

note_at : (desk : Ledger) (number : ℕ) (report : Report) (o : Option JobEntry) → job_at desk.jobs number ≡ o → (next : Ledger) × Notes desk number (Ok report) next
note_at desk number report None there = (desk, inr (λ entry found is_open. let clash : None ≡ Some entry = sym there ∙ found in absurd cc, refl))
note_at desk number report (Some entry) there = finishing desk number report entry there entry.standing refl

pub all_noted : (reports : List (ℕ × Report)) (desk : Ledger) → (ledger : Ledger) × AreNoted desk reports ledger
all_noted [] desk = (desk, refl)
all_noted (held ∷ reports) desk =
    let first = note_at desk held.0 held.1 (job_at desk.jobs held.0) refl in
    let later = all_noted reports first.0 in
    (later.0, (first.0, first.1, later.1))

-- frames that are cut, and then others
cuts_then : (bytes : List ℕ) (payloads : List (List ℕ)) (left : List ℕ) (further : List (List ℕ)) (rest : List ℕ) → Cuts bytes payloads left → Cuts left further rest → Cuts bytes (payloads ++ further) rest
cuts_then _ _ _ further rest (none_cut bytes) then_cuts = then_cuts
cuts_then _ _ _ further rest (one_cut bytes payload more payloads left first cuts) then_cuts =
    one_cut bytes payload more (payloads ++ further) rest first (cuts_then more payloads left further rest cuts then_cuts)

-- ---- what a runner holds, by its reports

module _ {R : Type 0} (reports : R → List (ℕ × Report)) where
  abbrev starts : R → ℕ → AdmittedJob → Result (Unit {0}) ℕ → R → Type 0
  starts r number job outcome s = StartsInline (reports r) number job outcome (reports s)

  abbrev looks : R → ℕ → Progress → R → Type 0
  looks r number progress s = (progress ≡ unseen) × (reports s ≡ reports r)

  abbrev takes : R → Option (ℕ × Result Report ℕ) → R → Type 0
  takes r taken s = TakesInline (reports r) taken (reports s)

  abbrev answers : Ledger × R → Result Asked ℕ → List ℕ → Ledger × R → Type 0
  answers s query reply t = Answers starts looks takes s.0 s.1 query reply t.0 t.1

  -- and to what stands in a payload
  abbrev read_answers : Ledger × R → List ℕ → List ℕ → Ledger × R → Type 0
  read_answers = by_reading answers

  -- what is taken is noted
  taken_noted : (desk : Ledger) (runner : R) (after : Ledger) (last : R) (ledger : Ledger) → Taken takes desk runner after last → AreNoted after (reports last) ledger → AreNoted desk (reports runner) ledger
  taken_noted desk runner after last ledger passing.none_yet noted = noted
  taken_noted desk runner after last ledger (passing.one_more d r number outcome s e before took notes) noted =
      let told : Notes d number (Ok took.0) e = subst (λ o. Notes d number o e) took.1 notes in
      taken_noted desk runner d r ledger before (subst (λ held. AreNoted d held ledger) (sym took.2) (e, told, noted))

  passes_noted : (desk after : Ledger) (runner left : R) → Passes takes desk runner after left → AreNoted desk (reports runner) after × (reports left ≡ [])
  passes_noted desk after runner left p =
      (taken_noted desk runner after p.last after p.taken (subst (λ held. AreNoted after held after) (sym p.none_left.0) refl), p.none_left.1)

  -- ---- one frame

  module _ (desk after ledger : Ledger) (runner left : R) (none : reports runner ≡ []) (noted : AreNoted after (reports left) ledger) where
    same_ledger : left ≡ runner → ledger ≡ after
    same_ledger is = subst (λ held. AreNoted after held ledger) (ap reports is ∙ none) noted

    plain_job : (name : List ℕ) (programs : List ProgramBytes) (credit : ℕ) (buffer : List ℕ) (told : Data) → (t : TakesJob starts desk runner name programs credit buffer told after left) →
        (x : Result (Unit {0}) ℕ) → t.outcome ≡ x → TakesAndPlays desk name programs credit buffer told ledger
    plain_job name programs credit buffer told t (Ok u) is =
        let played = subst (λ o. starts runner (length t.mid.jobs) t.job o left) is t.starts_job in
        let settles = subst (λ o. Settles t.mid (length t.mid.jobs) o after) is t.settles in
        let holds = played.2 ∙ ap (λ held. insert_entry nat_cmp held (length t.mid.jobs) played.0) none in
        let ends = subst (λ held. AreNoted after held ledger) holds noted in
        record {
          mid = t.mid;
          takes = t.takes;
          job = t.job;
          admitted = t.admitted;
          outcome = Ok played.0;
          comes = played.1;
          finishes = elim (subst (λ d. Notes d (length t.mid.jobs) (Ok played.0) ends.0) settles ends.1) [
            | inl done ↦ subst (λ l. Finishes t.mid (length t.mid.jobs) (Ok played.0) l) (sym ends.2) done
            | inr refused ↦ let there = opened desk t.mid name credit (length t.mid.jobs) t.takes refl in absurd (refused.0 there.0 there.1 there.2)
          ];
          tells = t.tells;
        }
    plain_job name programs credit buffer told t (Err code) is =
        let refused = subst (λ o. starts runner (length t.mid.jobs) t.job o left) is t.starts_job in
        let settles = subst (λ o. Settles t.mid (length t.mid.jobs) o after) is t.settles in
        let same : ledger ≡ after = subst (λ held. AreNoted after held ledger) (refused.1 ∙ none) noted in
        record {
          mid = t.mid;
          takes = t.takes;
          job = t.job;
          admitted = t.admitted;
          outcome = Err code;
          comes = refused.0;
          finishes = subst (λ l. Finishes t.mid (length t.mid.jobs) (Err code) l) (sym same) settles;
          tells = t.tells;
        }

    plain_submit : (name : List ℕ) (programs : List ProgramBytes) (credit : ℕ) (buffer : List ℕ) (told : Data) → Submits starts desk runner name programs credit buffer told after left →
        TakesAndPlays desk name programs credit buffer told ledger ⊎ PlaysNone desk name programs credit buffer told ledger
    plain_submit name programs credit buffer told (inl t) = inl (plain_job name programs credit buffer told t t.outcome refl)
    plain_submit name programs credit buffer told (inr t) = inr (record { fault = t.fault; why = t.why; same = same_ledger t.same_runner ∙ t.same; tells = t.tells })

    plain_reply : (query : Result Asked ℕ) (told : Data) → Replies starts looks desk runner query told after left → RepliesWith desk query told ledger
    unfolding Replies RepliesWith
    plain_reply (Err code) told r = (r.0, same_ledger r.2 ∙ r.1)
    plain_reply (Ok (grant name amount)) told r = subst (λ l. Grants desk name amount told l ⊎ GrantsNone desk name amount told l) (sym (same_ledger r.1)) r.0
    plain_reply (Ok (account name)) told r = (r.0, same_ledger r.2 ∙ r.1)
    plain_reply (Ok (submit name order)) told r = (r.0, r.1, plain_submit name r.0 order.credit order.buffer told r.2)
    plain_reply (Ok (status number)) told r =
        let kept : ledger ≡ after = subst (λ held. AreNoted after held ledger) (r.1.1 ∙ none) noted in
        (r.2 ∙ ap (λ seen. progress_told (progress_at desk number seen)) r.1.0, kept ∙ r.3)
    plain_reply (Ok (result number)) told r = (r.0, same_ledger r.2 ∙ r.1)

  -- ---- all frames

  -- the payloads that are cut are answered over the ledger
  pub record IsPlain (start : Ledger × R) (bytes before : List ℕ) (number : ℕ) (left out : List ℕ) (ledger : Ledger) : Type 0 where
    pub first : Ledger
    pub noted : AreNoted start.0 (reports start.1) first
    pub payloads : List (List ℕ)
    pub counts : length payloads ≡ number
    pub cuts : Cuts bytes payloads left
    pub text : List ℕ
    pub replies : RepliesTo first payloads text ledger
    pub written : out ≡ before ++ text

  pub plain : (start : Ledger × R) (bytes before : List ℕ) (count : ℕ) (s : Ledger × R) (left out : List ℕ) (ledger : Ledger) → Serves read_answers start bytes before count s left out → AreNoted s.0 (reports s.1) ledger → IsPlain start bytes before count left out ledger
  plain start bytes before count s left out ledger serving.none_yet noted = record {
    first = ledger;
    noted = noted;
    payloads = [];
    counts = refl;
    cuts = none_cut bytes;
    text = [];
    replies = none_yet;
    written = sym (append_nil before);
  }
    where
      append_nil : (xs : List ℕ) → xs ++ [] ≡ xs
      append_nil [] = refl
      append_nil (x ∷ xs) = ap (λ ys. x ∷ ys) (append_nil xs)
  plain start bytes before count s left out ledger (serving.one_more n u l o payload rest reply t served stands (query, heard, answer)) noted =
      let passed = passes_noted u.0 answer.mid u.1 answer.rest answer.passed in
      let earlier = plain start bytes before n u l o answer.mid served passed.0 in
      let told = plain_reply answer.mid t.0 ledger answer.rest t.1 passed.1 noted query (reply_data answer.told) answer.replies in
      record {
        first = earlier.first;
        noted = earlier.noted;
        payloads = earlier.payloads ++ payload ∷ [];
        counts = omega (arith, length-append earlier.payloads (payload ∷ []), earlier.counts);
        cuts = cuts_one bytes earlier.payloads l payload rest earlier.cuts stands;
        text = earlier.text ++ frame_of answer.told;
        replies = one_more earlier.payloads earlier.text answer.mid payload query answer.told ledger earlier.replies heard told;
        written = ap (λ r. o ++ r) answer.frame ∙ ap (λ xs. xs ++ frame_of answer.told) earlier.written ∙ append_assoc before earlier.text (frame_of answer.told);
      }

  no_frame : (f : Front) (out after : List ℕ) → EndsWith f out after → HasNoFrame f
  no_frame (whole payload rest) out after e = absurd e
  no_frame partial out after e = tt
  no_frame too_large out after e = tt

  ends_on : (f : Front) (before out text after : List ℕ) → out ≡ before ++ text → EndsWith f out after → (whole_text : List ℕ) × EndsWith f text whole_text × (after ≡ before ++ whole_text)
  ends_on (whole payload rest) before out text after is e = absurd e
  ends_on partial before out text after is e = (text, refl, e ∙ is)
  ends_on too_large before out text after is e = (text ++ too_large_reply, refl, e ∙ ap (λ xs. xs ++ too_large_reply) is ∙ append_assoc before text too_large_reply)

  pub writes_replies : (start : Ledger × R) (bytes before : List ℕ) (over : Type 0) (end : Ledger × R) (number : ℕ) (after : List ℕ) → IsServed read_answers start bytes before over end number after →
      WritesReplies start.0 (reports start.1) bytes before over end.0 (reports end.1) number after
  writes_replies start bytes before over end number after served =
      let last = all_noted (reports end.1) end.0 in
      let p = plain start bytes before served.count end served.left served.out last.0 served.frames last.1 in
      let cut = cuts_are bytes p.payloads served.left p.cuts (no_frame (front served.left) served.out after served.last) in
      let ends = ends_on (front served.left) before served.out p.text after p.written served.last in
      record {
        start = p.first;
        noted = p.noted;
        last = last.0;
        noted_last = last.1;
        text = ends.0;
        replies = record {
          out = p.text;
          replies = subst (λ f. RepliesTo p.first f.payloads p.text last.0) (sym cut) p.replies;
          last = subst (λ f. EndsWith (front f.rest) p.text ends.0) (sym cut) ends.1;
        };
        written = ends.2;
        counts = served.counts ∙ ap (λ n. min n (2 ^ 64 - 1)) (sym p.counts ∙ ap (λ f. length f.payloads) (sym cut));
        stops = subst (λ f. StopsAt (front f.rest) over bytes) (sym cut) served.stops;
      }

  -- ---- where it is given up

  -- the frames that are cut are the first ones
  first_of : (bytes : List ℕ) (payloads : List (List ℕ)) (left : List ℕ) → Cuts bytes payloads left → frames_of bytes ≡ record { payloads = payloads ++ (frames_of left).payloads; rest = (frames_of left).rest }
  first_of bytes payloads left cuts =
      cuts_are bytes (payloads ++ (frames_of left).payloads) (frames_of left).rest (cuts_then bytes payloads left (frames_of left).payloads (frames_of left).rest cuts (frames_are_cut left).cuts) (frames_are_cut left).none

  -- so many frames are answered, and a beginning of their replies is written
  begun_part : (start : Ledger × R) (bytes before : List ℕ) (count : ℕ) (end : Ledger × R) (left out after lacking : List ℕ) → Serves read_answers start bytes before count end left out → IsGrown before after → after ++ lacking ≡ out →
      BeginsReplies start.0 (reports start.1) bytes before end.0 (reports end.1) after
  begun_part start bytes before count end left out after lacking served grown lacks =
      let last = all_noted (reports end.1) end.0 in
      let p = plain start bytes before count end left out last.0 served last.1 in
      record {
        start = p.first;
        noted = p.noted;
        last = last.0;
        noted_last = last.1;
        payloads = p.payloads;
        further = (frames_of left).payloads;
        first = ap (λ f. f.payloads) (first_of bytes p.payloads left p.cuts);
        text = p.text;
        replies = p.replies;
        part = grown.0;
        written = grown.1;
        begins = (lacking, inl (append_cancel_left before (grown.0 ++ lacking) p.text (sym (append_assoc before grown.0 lacking) ∙ ap (λ xs. xs ++ lacking) (sym grown.1) ∙ lacks ∙ p.written)));
      }

  -- all frames are answered, and of their replies with the last 71 a beginning is written
  begun_last : (start : Ledger × R) (bytes before : List ℕ) (count : ℕ) (end : Ledger × R) (left out after lacking : List ℕ) → Serves read_answers start bytes before count end left out → IsGrown before after → front left ≡ too_large → after ++ lacking ≡ out ++ too_large_reply →
      BeginsReplies start.0 (reports start.1) bytes before end.0 (reports end.1) after
  begun_last start bytes before count end left out after lacking served grown stands lacks =
      let last = all_noted (reports end.1) end.0 in
      let p = plain start bytes before count end left out last.0 served last.1 in
      let cut = cuts_are bytes p.payloads left p.cuts (subst HasNoFrame (sym stands) tt) in
      record {
        start = p.first;
        noted = p.noted;
        last = last.0;
        noted_last = last.1;
        payloads = p.payloads;
        further = [];
        first = ap (λ f. f.payloads) cut ∙ sym (append-nil p.payloads);
        text = p.text;
        replies = p.replies;
        part = grown.0;
        written = grown.1;
        begins = (
          lacking,
          inr (
            ap (λ f. front f.rest) cut ∙ stands,
            refl,
            append_cancel_left before (grown.0 ++ lacking) (p.text ++ too_large_reply)
                (sym (append_assoc before grown.0 lacking) ∙ ap (λ xs. xs ++ lacking) (sym grown.1) ∙ lacks ∙ ap (λ xs. xs ++ too_large_reply) p.written ∙ append_assoc before p.text too_large_reply),
          ),
        );
      }

  begun : (start : Ledger × R) (bytes before : List ℕ) (count : ℕ) (end : Ledger × R) (left out : List ℕ) → Serves read_answers start bytes before count end left out →
      BeginsReplies start.0 (reports start.1) bytes before end.0 (reports end.1) out
  begun start bytes before count end left out served =
      begun_part start bytes before count end left out out [] served (serves_grow read_answers start bytes before count end left out served) (append-nil out)

  -- one more frame was heard, of whose reply nothing is written
  begun_ahead : (start : Ledger × R) (bytes before : List ℕ) (count : ℕ) (s : Ledger × R) (left out payload rest reply : List ℕ) (end : Ledger × R) → Serves read_answers start bytes before count s left out →
      front left ≡ whole payload rest → read_answers s payload reply end → BeginsReplies start.0 (reports start.1) bytes before end.0 (reports end.1) out
  begun_ahead start bytes before count s left out payload rest reply end served stands answer =
      begun_part start bytes before (suc count) end rest (out ++ reply) out reply (serving.one_more count s left out payload rest reply end served stands answer)
      (serves_grow read_answers start bytes before count s left out served) refl

  -- what is due isn't written whole
  begun_due : (start : Ledger × R) (bytes before : List ℕ) (count : ℕ) (end : Ledger × R) (left out due after lacking : List ℕ) → Serves read_answers start bytes before count end left out → IsGrown before after → IsDue (front left) out due → after ++ lacking ≡ due →
      BeginsReplies start.0 (reports start.1) bytes before end.0 (reports end.1) after
  begun_due start bytes before count end left out due after lacking served grown (inl is) lacks = begun_part start bytes before count end left out after lacking served grown (lacks ∙ is)
  begun_due start bytes before count end left out due after lacking served grown (inr last) lacks = begun_last start bytes before count end left out after lacking served grown last.0 (lacks ∙ last.1)

  begun_cut : (start : Ledger × R) (bytes before : List ℕ) (end : Ledger × R) (after : List ℕ) → IsCutOff read_answers start bytes before end after → BeginsReplies start.0 (reports start.1) bytes before end.0 (reports end.1) after
  begun_cut start bytes before end after stop =
      let cut = stop.stop in
      let early = serves_more read_answers start stop.early before stop.piece stop.count stop.state stop.left stop.out stop.frames in
      let all = serves_on read_answers start (stop.early ++ stop.piece) before stop.count stop.state (stop.left ++ stop.piece) stop.out cut.count end cut.left cut.out early cut.frames in
      let served = subst (λ (xs : List ℕ). Serves read_answers start xs before (stop.count + cut.count) end cut.left cut.out) (sym stop.came) all in
      let grown = grows_on before stop.out after (serves_grow read_answers start stop.early before stop.count stop.state stop.left stop.out stop.frames) (cut.cut.part, cut.cut.written) in
      begun_due start bytes before (stop.count + cut.count) end cut.left cut.out cut.due after cut.cut.lacking served grown cut.is_due cut.cut.lacks

  pub begins_replies : (fault : StreamFault) (start : Ledger × R) (bytes before : List ℕ) (end : Ledger × R) (after : List ℕ) → IsStoppedBy fault read_answers start bytes before end after →
      BeginsReplies start.0 (reports start.1) bytes before end.0 (reports end.1) after
  begins_replies ReadFailed start bytes before end after stop = begun start bytes before stop.count end stop.left after stop.frames
  begins_replies WriteFailed start bytes before end after stop = begun_cut start bytes before end after stop
  begins_replies NoMemory start bytes before end after (between count s left out served) = begun start bytes before count s left out served
  begins_replies NoMemory start bytes before end after (ahead_of_reply count s left out payload rest reply t served stands answer) =
      begun_ahead start bytes before count s left out payload rest reply t served stands answer
