-- A whole tape: its opening, and its commands as they were run. Assumes nothing.
use Rattle.std.proofs.Common.{◌≡◌, ℕ, ◌+◌, ◌≤◌, Bool, true, false, List, [], ◌∷◌, ◌++◌, length, take, drop, min, refl, sym, ap, ◌∙◌, subst, append_assoc, append-nil, arith, take_all, length-take-le, take-append-drop, drop-drop, length-append}
use Rattle.std.specs.Prelude.{◌⊎◌, Option, None, Some, IfSome, Result, Ok, Err, IfOk, IfErr, OnOk, OnErr}
use Rattle.std.proofs.Common.{inl, inr}
use lib.Seq.{take-append-le, drop-append-le}
use Rattle.std.proofs.lemmas.List.{take_min}
use Rattle.std.proofs.lemmas.Option.{IfSome_then}
use Rattle.std.proofs.lemmas.Result.{IfOk-weaker, on_err_weaker}
use Rattle.std.proofs.Math.Seq.{take-append_seam}
use Rattle.std.specs.Io.KnownBytes.{Consumes, Appends, IsAtEnd}
use Rattle.std.proofs.KnownBytes.{Consumes-trans}
use Rattle.chunks.proofs.ChunkRuns.{lines_both, answers_both, one_line}
use Rattle.chunks.specs.Chunks.{lines_text, line_behind}
use Rattle.streaming.proofs.History.{tape_reached, broken_reached}
use Rattle.streaming.proofs.Opened.{accepted_inside}
use Rattle.streaming.specs.Stages.{Stage, Advanced, Over, Broken, midway, at_end, end_of}
use Rattle.streaming.specs.Whole.{tape_text, ended_by, rows_after, Ended, TapeRun, Beginning, Failed, unopened, partly, Reached, is_input, AfterFailure, refused, behind_opening, OpeningRead}
use Rattle.streaming.specs.declared.End.{End}
use Rattle.streaming.specs.declared.End.TheVariants as H
use Rattle.streaming.specs.declared.Failure.{Failure}
use Rattle.laws.proofs.ListLaws.{never}
use Rattle.layout.specs.Layout.{store_of, sound, Opened as Holds}
use Rattle.lines.specs.Lines.{line_text}
use Rattle.metadata.specs.Answers.{is_applied, reported}
use Rattle.printing.specs.Sent.{Sent}
use Rattle.metadata.specs.Claims.{Claims}
use Rattle.metadata.specs.History.{initial_history}
use Rattle.metadata.specs.Model.{StoreRows, Outcome}
use Rattle.metadata.specs.Run.{run, answers}
use Rattle.metadata.specs.declared.Answer.{Answer}
use Rattle.metadata.specs.declared.Command.{Command}
use Rattle.reading.proofs.Longer.{open_longer, body_longer}
use Rattle.reading.proofs.Places.{stands_behind, stands_more, stands_inside, stands_read, stands_all, next_back, unknown_in}
use Rattle.reading.specs.Places.{Stands, Opened, stop_of, is_whole, is_unknown}
use Rattle.reading.specs.Reader.{Reading, next_at, read_from, tape_answers, tables_of, group_of, body_at, open_tape}
use Rattle.reading.specs.declared.Next.{Next}
use Rattle.reading.specs.declared.Next.TheVariants as N
use Rattle.tape.proofs.History.{tape_history}
use Rattle.tape.specs.Tape.{outcome, final_store}

-- ---- a tape whose opening is accepted, by the commands that stand in it

outcome_accepted : (l : List ℕ) → is_applied (open_tape l).answer ≡ true → outcome l ≡ tape_answers (open_tape l).rows (read_from l (body_at l))
unfolding outcome
outcome_accepted l e = rw e

store_accepted : (l : List ℕ) → is_applied (open_tape l).answer ≡ true → final_store l ≡ run (open_tape l).rows (read_from l (body_at l)).commands
unfolding final_store
store_accepted l e = rw e

outcome_refused : (l : List ℕ) → is_applied (open_tape l).answer ≡ false → outcome l ≡ (open_tape l).answer ∷ []
unfolding outcome
outcome_refused l e = rw e

store_refused : (l : List ℕ) → is_applied (open_tape l).answer ≡ false → final_store l ≡ (open_tape l).rows
unfolding final_store
store_refused l e = rw e

stop_ends : (x : Next) → is_whole x ≡ false → ended_by (stop_of x) ≡ end_of x
stop_ends N.End e = refl
stop_ends (N.Unknown b) e = refl
stop_ends (N.Cut b) e = refl
stop_ends (N.Whole b m) e = absurd (never true refl e)

module _ (l : List ℕ) (a : is_applied (open_tape l).answer ≡ true) (cs : List Command) (e : ℕ) (stand : Stands l (body_at l) cs e) where
  text_from : (more : List Answer) → outcome l ≡ answers (open_tape l).rows cs ++ more → tape_text l ≡ lines_text 1 (answers (open_tape l).rows cs ++ more)
  text_from more o = rw a (ap (lines_text 1) o)

  -- what no whole command stands behind is the whole of it
  module _ (n : is_whole (next_at l e) ≡ false) where
    all_read : read_from l (body_at l) ≡ record { commands = cs; stop = stop_of (next_at l e) }
    all_read = stands_all stand n

    pub all_told : outcome l ≡ answers (open_tape l).rows cs ++ stop_of (next_at l e)
    all_told = outcome_accepted l a ∙ ap (tape_answers (open_tape l).rows) all_read

    pub all_ended : (how : End) (s : List ℕ) (output now : Option (List ℕ)) → store_of s ≡ run (open_tape l).rows cs → sound s ≡ true → how ≡ end_of (next_at l e) →
        Appends output now (lines_text 1 (answers (open_tape l).rows cs ++ stop_of (next_at l e))) → Ended l how s output now
    all_ended how s output now q i h w =
        let z : store_of s ≡ final_store l = q ∙ ap (λ (r : Reading). run (open_tape l).rows r.commands) (sym all_read) ∙ sym (store_accepted l a) in
        record {
          rows = z;
          sounds = i;
          wrote = subst (Appends output now) (sym (text_from (stop_of (next_at l e)) all_told)) w;
          how_ended = h ∙ sym (stop_ends (next_at l e) n) ∙ ap (λ (r : Reading). ended_by r.stop) (sym all_read) ∙ sym (rw a refl);
          history = λ b. subst (Claims (initial_history (tables_of l) (group_of l)) (read_from l (body_at l)).commands (answers (open_tape l).rows (read_from l (body_at l)).commands)) (sym z) (tape_history l b);
        }

  -- and what is written of some of its commands is a beginning
  some_told : outcome l ≡ answers (open_tape l).rows cs ++ tape_answers (run (open_tape l).rows cs) (read_from l e)
  some_told =
      outcome_accepted l a ∙ ap (tape_answers (open_tape l).rows) (stands_read stand)
      ∙ ap (λ (x : List Answer). x ++ (read_from l e).stop) (answers_both (open_tape l).rows cs (read_from l e).commands)
      ∙ append_assoc (answers (open_tape l).rows cs) (answers (run (open_tape l).rows cs) (read_from l e).commands) (read_from l e).stop

  pub some_rows : (s : List ℕ) → store_of s ≡ run (open_tape l).rows cs → store_of s ≡ rows_after (length cs) l
  some_rows s q =
      let first : take (length cs) (read_from l (body_at l)).commands ≡ cs =
      ap (λ (r : Reading). take (length cs) r.commands) (stands_read stand) ∙ take-append_seam cs (read_from l e).commands in
      q ∙ ap (run (open_tape l).rows) (sym first) ∙ sym (rw a refl)

  pub some_written : (s : List ℕ) → store_of s ≡ run (open_tape l).rows cs → sound s ≡ true →
      (count : ℕ) (output now : Option (List ℕ)) → Appends output now (take count (lines_text 1 (answers (open_tape l).rows cs ++ []))) → Beginning l s output now
  some_written s q i count output now w =
      let one : List ℕ = lines_text 1 (answers (open_tape l).rows cs) in
      let more : List Answer = tape_answers (run (open_tape l).rows cs) (read_from l e) in
      let text : tape_text l ≡ one ++ lines_text (line_behind 1 (answers (open_tape l).rows cs)) more =
      text_from more some_told ∙ lines_both 1 (answers (open_tape l).rows cs) more in
      record {
        done = length cs;
        rows = some_rows s q;
        sounds = i;
        count = min count (length one);
        wrote =
            subst (Appends output now)
            (ap (λ (x : List Answer). take count (lines_text 1 x)) (append-nil (answers (open_tape l).rows cs)) ∙ sym (take_min count one)
            ∙ sym (take-append-le (min count (length one)) one (lines_text (line_behind 1 (answers (open_tape l).rows cs)) more) (omega arith))
            ∙ ap (take (min count (length one))) (sym text))
            w;
      }

-- ---- the bytes at hand behind the opening, and those that were read behind them, as one tape

module _ (l more : List ℕ) (at : ℕ) (g : at ≤ length l) where
  joined : drop at (l ++ more) ≡ drop at l ++ more
  joined = drop-append-le at l more g

  pub stands_whole : {cs : List Command} {e : ℕ} → Stands (drop at l ++ more) 0 cs e → Stands (l ++ more) at cs (at + e)
  stands_whole {cs} {e} s =
      let front : List ℕ = take at (l ++ more) in
      let h : at ≤ length (l ++ more) = omega (arith, length-append l more) in
      let n : length front ≡ at = length-take-le at (l ++ more) h in
      let z : length front + 0 ≡ at = omega (arith, n) in
      let y : length front + e ≡ at + e = omega (arith, n) in
      let q : front ++ (drop at l ++ more) ≡ l ++ more = ap (λ (x : List ℕ). front ++ x) (sym joined) ∙ take-append-drop at (l ++ more) in
      let s1 : Stands (front ++ (drop at l ++ more)) (length front + 0) cs (length front + e) = stands_behind front (drop at l ++ more) s in
      let s2 : Stands (l ++ more) (length front + 0) cs (length front + e) = subst (λ (x : List ℕ). Stands x (length front + 0) cs (length front + e)) q s1 in
      let s3 : Stands (l ++ more) at cs (length front + e) = subst (λ (i : ℕ). Stands (l ++ more) i cs (length front + e)) z s2 in
      subst (λ (i : ℕ). Stands (l ++ more) at cs i) y s3

  pub left_whole : (e : ℕ) (unrun : List ℕ) → drop e (drop at l ++ more) ≡ unrun → drop (at + e) (l ++ more) ≡ unrun
  left_whole e unrun q = sym (drop-drop e at (l ++ more)) ∙ ap (drop e) joined ∙ q

-- an accepted opening is there
opened : (l : List ℕ) → is_applied (open_tape l).answer ≡ true → Opened l
opened l a = let h : body_at l ≤ length l = accepted_inside l a in record { head = omega arith; whole = inr h }

-- where the bytes that an input has left are known, they are those that were read of it and those that it has left then
known : (t : List ℕ) (after : Option (List ℕ)) (xs : List ℕ) → Consumes (Some t) after xs → (r : List ℕ) × (after ≡ Some r) × (t ≡ xs ++ r)
known t None xs c = absurd c
known t (Some r) xs c = (r, refl, c)

at_its_end : (after : Option (List ℕ)) (r : List ℕ) → IsAtEnd after → after ≡ Some r → r ≡ []
at_its_end after r e q = subst IsAtEnd q e

-- l is at hand when the opening is accepted, s₀ holds what it gives, and the run goes on from its end
module _ (l : List ℕ) (a : is_applied (open_tape l).answer ≡ true) (s₀ : List ℕ) (v : store_of s₀ ≡ (open_tape l).rows) (unread output : Option (List ℕ)) where
  abbrev start : Stage
  start = record { unrun = drop (body_at l) l; store = s₀; line = 1; unread = unread; output = output }

  module _ (unrun : List ℕ) (s : List ℕ) (line : ℕ) (after now : Option (List ℕ)) (last : List Answer) (all : Bool)
      (k : Advanced start (record { unrun = unrun; store = s; line = line; unread = after; output = now }) last all) where
    abbrev tape : List ℕ
    tape = l ++ k.more

    abbrev place : ℕ
    place = body_at l + k.place

    stand : Stands tape (body_at l) k.commands place
    stand = stands_whole l k.more (body_at l) (accepted_inside l a) k.stand

    stand_inside : place ≤ length tape
    stand_inside = stands_inside stand (omega (arith, accepted_inside l a, length-append l k.more))

    behind : drop place tape ≡ unrun
    behind = left_whole l k.more (body_at l) (accepted_inside l a) k.place unrun k.behind

    -- any tape that begins like this one and whose opening is the same
    module _ (r : List ℕ) where
      same_opening : open_tape (tape ++ r) ≡ open_tape l
      same_opening = ap open_tape (append_assoc l k.more r) ∙ open_longer l (k.more ++ r) (opened l a)

      same_body : body_at (tape ++ r) ≡ body_at l
      same_body = ap body_at (append_assoc l k.more r) ∙ body_longer l (k.more ++ r) (opened l a)

      accepts : is_applied (open_tape (tape ++ r)).answer ≡ true
      accepts = ap (λ (o : Outcome). is_applied o.answer) same_opening ∙ a

      same_rows : (open_tape (tape ++ r)).rows ≡ store_of s₀
      same_rows = ap (λ (o : Outcome). o.rows) same_opening ∙ sym v

      stand_longer : Stands (tape ++ r) (body_at (tape ++ r)) k.commands place
      stand_longer = subst (λ (i : ℕ). Stands (tape ++ r) i k.commands place) (sym same_body) (stands_more tape r stand)

      ran_longer : store_of s ≡ run (open_tape (tape ++ r)).rows k.commands
      ran_longer = k.ran ∙ ap (λ (o : StoreRows). run o k.commands) (sym same_rows)

      rows_longer : store_of s ≡ rows_after (length k.commands) (tape ++ r)
      rows_longer = some_rows (tape ++ r) accepts k.commands place stand_longer s ran_longer

      begins : (count : ℕ) → Appends output now (take count (lines_text 1 (answers (store_of s₀) k.commands ++ []))) → Beginning (tape ++ r) s output now
      begins count w =
          some_written (tape ++ r) accepts k.commands place stand_longer s ran_longer k.sounds count output now
          (subst (λ (o : StoreRows). Appends output now (take count (lines_text 1 (answers o k.commands ++ [])))) (sym same_rows) w)

      module _ (n : is_whole (next_at (tape ++ r) place) ≡ false) where
        ends : (how : End) → how ≡ end_of (next_at (tape ++ r) place) → Appends output now (lines_text 1 (answers (store_of s₀) k.commands ++ stop_of (next_at (tape ++ r) place))) → Ended (tape ++ r) how s output now
        ends how h w =
            all_ended (tape ++ r) accepts k.commands place stand_longer n how s output now ran_longer k.sounds h
            (subst (λ (o : StoreRows). Appends output now (lines_text 1 (answers o k.commands ++ stop_of (next_at (tape ++ r) place)))) (sym same_rows) w)

        text_is : tape_text (tape ++ r) ≡ lines_text 1 (answers (store_of s₀) k.commands ++ stop_of (next_at (tape ++ r) place))
        text_is =
            rw accepts (ap (lines_text 1) (all_told (tape ++ r) accepts k.commands place stand_longer n))
            ∙ ap (λ (o : StoreRows). lines_text 1 (answers o k.commands ++ stop_of (next_at (tape ++ r) place))) same_rows

  module _ (how : End) (s : List ℕ) (after now : Option (List ℕ)) (all : Bool) (o : Over start how s after now all) where
    abbrev whole_tape : List ℕ
    whole_tape = l ++ o.advanced.more

    abbrev whole_place : ℕ
    whole_place = body_at l + o.advanced.place

    -- what stands behind the last command of the tape, also with more bytes behind it where the input has more
    last_stands : next_at whole_tape whole_place ≡ next_at o.unrun 0
    last_stands =
        next_back whole_tape whole_place (stand_inside o.unrun s o.line after now _ all o.advanced) (ap (λ (x : List ℕ). is_whole (next_at x 0)) (behind o.unrun s o.line after now _ all o.advanced) ∙ o.none_whole)
        ∙ ap (λ (x : List ℕ). next_at x 0) (behind o.unrun s o.line after now _ all o.advanced)

    stays : (r : List ℕ) → after ≡ Some r → next_at (whole_tape ++ r) whole_place ≡ next_at o.unrun 0
    stays r q = go (next_at o.unrun 0) refl
      where
        ended : is_unknown (next_at o.unrun 0) ≡ false → next_at (whole_tape ++ r) whole_place ≡ next_at o.unrun 0
        ended u =
            ap (λ (x : List ℕ). next_at x whole_place) (ap (λ (x : List ℕ). whole_tape ++ x) (at_its_end after r (o.ended u) q) ∙ append-nil whole_tape) ∙ last_stands

        go : (x : Next) → next_at o.unrun 0 ≡ x → next_at (whole_tape ++ r) whole_place ≡ next_at o.unrun 0
        go N.End e = ended (ap is_unknown e)
        go (N.Cut b) e = ended (ap is_unknown e)
        go (N.Whole b m) e = ended (ap is_unknown e)
        go (N.Unknown b) e =
            let z : length {A = ℕ} [] + whole_place ≡ whole_place = omega arith in
            ap (next_at (whole_tape ++ r)) (sym z) ∙ unknown_in [] whole_tape r whole_place b (last_stands ∙ e) ∙ sym e

    module _ (r : List ℕ) (n : next_at (whole_tape ++ r) whole_place ≡ next_at o.unrun 0) where
      not_whole : is_whole (next_at (whole_tape ++ r) whole_place) ≡ false
      not_whole = ap is_whole n ∙ o.none_whole

      -- all of the lines were written
      ended_so : all ≡ true → Ended (whole_tape ++ r) how s output now
      ended_so t =
          ends o.unrun s o.line after now _ all o.advanced r not_whole how (o.how_ended ∙ ap end_of (sym n))
          (subst (Appends output now)
          (take_all o.advanced.count (lines_text 1 (answers (store_of s₀) o.advanced.commands ++ stop_of (next_at o.unrun 0))) (o.advanced.written t)
          ∙ ap (λ (x : Next). lines_text 1 (answers (store_of s₀) o.advanced.commands ++ stop_of x)) (sym n))
          o.advanced.wrote)

      begun_so : Beginning (whole_tape ++ r) s output now
      begun_so =
          record {
            done = length o.advanced.commands;
            rows = rows_longer o.unrun s o.line after now _ all o.advanced r;
            sounds = o.advanced.sounds;
            count = o.advanced.count;
            wrote =
                subst (λ (x : List ℕ). Appends output now (take o.advanced.count x))
                (ap (λ (x : Next). lines_text 1 (answers (store_of s₀) o.advanced.commands ++ stop_of x)) (sym n) ∙ sym (text_is o.unrun s o.line after now _ all o.advanced r not_whole))
                o.advanced.wrote;
          }

  -- ---- THE TAPE WAS RUN
  pub tape_ran : (first : Option (List ℕ)) → Consumes first unread l → (how : End) (s : List ℕ) (after now : Option (List ℕ)) → Over start how s after now true → TapeRun how s first after output now
  tape_ran first c how s after now o =
      let nil : next_at (whole_tape how s after now true o ++ []) (whole_place how s after now true o) ≡ next_at o.unrun 0 =
      ap (λ (x : List ℕ). next_at x (whole_place how s after now true o)) (append-nil (whole_tape how s after now true o)) ∙ last_stands how s after now true o in
      record {
        tape = whole_tape how s after now true o;
        read = Consumes-trans first unread after l o.advanced.more c o.advanced.read;
        ended = subst (λ (x : List ℕ). Ended x how s output now) (append-nil (whole_tape how s after now true o)) (ended_so how s after now true o [] nil refl);
        longer = λ r q. ended_so how s after now true o r (stays how s after now true o r q) refl;
      }

  -- ---- it was not, and a beginning of its lines was written
  pub tape_broken : (first : Option (List ℕ)) → Consumes first unread l → (s : List ℕ) (after now : Option (List ℕ)) → Broken start s after now → IfSome first (λ t. Beginning t s output now)
  tape_broken None c s after now b = tt
  tape_broken (Some t) c s after now (midway unrun line f) =
      let k = known t after (l ++ f.more) (Consumes-trans (Some t) unread after l f.more c f.read) in
      subst (λ (x : List ℕ). Beginning x s output now) (sym k.2) (begins unrun s line after now [] false f k.0 f.count f.wrote)
  tape_broken (Some t) c s after now (at_end how o) =
      let k = known t after (l ++ o.advanced.more) (Consumes-trans (Some t) unread after l o.advanced.more c o.advanced.read) in
      subst (λ (x : List ℕ). Beginning x s output now) (sym k.2) (begun_so how s after now false o k.0 (stays how s after now false o k.0 k.1))

-- ---- of a run, where what the input had is known: the whole tape is that
pub ran_known : (how : End) (s : List ℕ) (unread after output now : Option (List ℕ)) → TapeRun how s unread after output now → IfSome unread (λ t. Ended t how s output now)
ran_known how s None after output now k = tt
ran_known how s (Some t) after output now k =
    let r = known t after k.tape k.read in
    subst (λ (x : List ℕ). Ended x how s output now) (sym r.2) (k.longer r.0 r.1)

-- ---- a refused opening is the one answer

module _ (l : List ℕ) (a : is_applied (open_tape l).answer ≡ false) where
  refused_text : tape_text l ≡ line_text 0 (reported (open_tape l).answer)
  refused_text = rw a (ap (lines_text 0) (outcome_refused l a)) ∙ one_line 0 (open_tape l).answer

  refused_ended : (s : List ℕ) → store_of s ≡ (open_tape l).rows → sound s ≡ true → (output now : Option (List ℕ)) → Appends output now (line_text 0 (reported (open_tape l).answer)) →
      Ended l H.Stopped s output now
  refused_ended s v i output now w =
      record {
        rows = v ∙ sym (store_refused l a);
        sounds = i;
        wrote = subst (Appends output now) (sym refused_text) w;
        how_ended = sym (rw a refl);
        history = λ b. absurd (never _ b a);
      }

-- l is what was read of a tape whose opening is refused
module _ (first after : Option (List ℕ)) (l : List ℕ) (a : is_applied (open_tape l).answer ≡ false) (c : Consumes first after l) (enough : Opened l ⊎ IsAtEnd after) where
  refused_same : (r : List ℕ) → after ≡ Some r → open_tape (l ++ r) ≡ open_tape l
  refused_same r q = go enough
    where
      go : Opened l ⊎ IsAtEnd after → open_tape (l ++ r) ≡ open_tape l
      go (inl k) = open_longer l r k
      go (inr e) = ap (λ (x : List ℕ). open_tape (l ++ x)) (at_its_end after r e q) ∙ ap open_tape (append-nil l)

  refused_too : (r : List ℕ) → after ≡ Some r → is_applied (open_tape (l ++ r)).answer ≡ false
  refused_too r q = ap (λ (o : Outcome). is_applied o.answer) (refused_same r q) ∙ a

  module _ (output now : Option (List ℕ)) (V E : Type 0) (r : Result V E) (w : Sent output now (line_text 0 (reported (open_tape l).answer)) r) where
    pub refused_ran : (s : List ℕ) → store_of s ≡ (open_tape l).rows → sound s ≡ true → (v : V) → r ≡ Ok v → TapeRun H.Stopped s first after output now
    refused_ran s u i v e =
        let z : Appends output now (line_text 0 (reported (open_tape l).answer)) =
        subst (Appends output now)
        (take_all w.count (line_text 0 (reported (open_tape l).answer)) (omega (arith, subst (λ (x : Result V E). OnOk x (w.count ≡ length (line_text 0 (reported (open_tape l).answer)))) e w.all)))
        w.wrote in
        record {
          tape = l;
          read = c;
          ended = refused_ended l a s u i output now z;
          longer = λ m q.
              refused_ended (l ++ m) (refused_too m q) s (u ∙ ap (λ (o : Outcome). o.rows) (sym (refused_same m q))) i output now
              (subst (λ (o : Outcome). Appends output now (line_text 0 (reported o.answer))) (sym (refused_same m q)) z);
        }

    pub refused_broken : (s : List ℕ) → store_of s ≡ (open_tape l).rows → sound s ≡ true → IfSome first (λ t. Beginning t s output now)
    refused_broken s u i = go first c
      where
        go : (x : Option (List ℕ)) → Consumes x after l → IfSome x (λ t. Beginning t s output now)
        go None d = tt
        go (Some t) d =
            let k = known t after l d in
            subst (λ (x : List ℕ). Beginning x s output now) (sym k.2)
            (record {
              done = 0;
              rows = u ∙ ap (λ (o : Outcome). o.rows) (sym (refused_same k.0 k.1)) ∙ sym (rw (refused_too k.0 k.1) refl);
              sounds = i;
              count = w.count;
              wrote =
                  subst (λ (x : List ℕ). Appends output now (take w.count x))
                  (ap (λ (o : Outcome). line_text 0 (reported o.answer)) (sym (refused_same k.0 k.1)) ∙ sym (refused_text (l ++ k.0) (refused_too k.0 k.1))) w.wrote;
            })

-- the opening was not read
pub nothing_begun : (first output : Option (List ℕ)) (s : List ℕ) → IfSome first (λ t. Failed t s s output output)
nothing_begun None output s = tt
nothing_begun (Some t) output s = unopened refl refl

-- ---- as the code meets them: `hand` is at hand, h and g are slices of it, o is what the opening gives and t whether it is accepted

module _ {V E : Type 0} (hand h : List ℕ) (e : h ≡ hand) (first unread output : Option (List ℕ)) (x : Result V E) (k : OpeningRead hand first unread x) (o : Answer) (s₀ : List ℕ) (q : Holds (open_tape h) o s₀) (t : Bool) (p : t ≡ is_applied o) where
  opening_is : Holds (open_tape hand) o s₀
  opening_is = subst (λ (y : List ℕ). Holds (open_tape y) o s₀) e q

  module _ (f : t ≡ true) (g : List ℕ) (d : g ≡ hand) (at : ℕ) (z : at ≡ body_at g) where
    accepts_it : is_applied (open_tape hand).answer ≡ true
    accepts_it = ap is_applied (sym opening_is.answer) ∙ sym p ∙ f

    begins_at : at ≡ body_at hand
    begins_at = z ∙ ap body_at d

    abbrev stage_at : ℕ → Stage
    stage_at i = record { unrun = drop i hand; store = s₀; line = 1; unread = unread; output = output }

    module _ (s : List ℕ) (after now : Option (List ℕ)) {F : Type 0} (r : Result End F) where
      pub run_accepted : IfOk r (λ how. Over (stage_at at) how s after now true) → IfOk r (λ how. TapeRun how s first after output now)
      run_accepted w = IfOk-weaker r _ _ (λ how x. one how (subst (λ (i : ℕ). Over (stage_at i) how s after now true) begins_at x)) w
        where
          one : (how : End) → Over (stage_at (body_at hand)) how s after now true → TapeRun how s first after output now
          one how x = tape_ran hand accepts_it s₀ opening_is.rows unread output first k.read how s after now x

      pub run_known : IfOk r (λ how. Over (stage_at at) how s after now true) → IfOk r (λ how. IfSome first (λ l. Ended l how s output now))
      run_known w = IfOk-weaker r _ _ (λ how x. ran_known how s first after output now x) (run_accepted w)

      pub run_failed : (lent : List ℕ) → OnErr r (Broken (stage_at at) s after now) → OnErr r (IfSome first (λ l. Failed l lent s output now))
      run_failed lent w = on_err_weaker r (λ x. one (subst (λ (i : ℕ). Broken (stage_at i) s after now) begins_at x)) w
        where
          one : Broken (stage_at (body_at hand)) s after now → IfSome first (λ l. Failed l lent s output now)
          one x = IfSome_then first (tape_broken hand accepts_it s₀ opening_is.rows unread output first k.read s after now x) (λ l y. partly y)

    -- commands lead to what is left from what the opening gives
    pub run_broken_block : (s : List ℕ) (after now : Option (List ℕ)) (r : Result End Failure) (lent : List ℕ) → OnErr r (Broken (stage_at at) s after now) → IfErr r (λ failure. AfterFailure failure lent s)
    run_broken_block s after now (Ok how) lent w = tt
    run_broken_block s after now (Err failure) lent w =
        let b = broken_reached (stage_at at) s after now w in
        behind_opening hand accepts_it b.0 (tape_reached hand accepts_it (store_of s) (subst (λ (i : StoreRows). Reached i (store_of s)) opening_is.rows b.1))

  module _ (f : t ≡ false) (v : V) (y : x ≡ Ok v) {V' E' : Type 0} (now : Option (List ℕ)) (r : Result V' E') (w : Sent output now (line_text 0 (reported o)) r) where
    refuses_it : is_applied (open_tape hand).answer ≡ false
    refuses_it = ap is_applied (sym opening_is.answer) ∙ sym p ∙ f

    there : Opened hand ⊎ IsAtEnd unread
    there = subst (λ (i : Result V E). OnOk i (Opened hand ⊎ IsAtEnd unread)) y k.enough

    sent_it : Sent output now (line_text 0 (reported (open_tape hand).answer)) r
    sent_it = subst (λ (i : Answer). Sent output now (line_text 0 (reported i)) r) opening_is.answer w

    pub run_refused : (v' : V') → r ≡ Ok v' → TapeRun H.Stopped s₀ first unread output now
    run_refused v' u =
        refused_ran first unread hand refuses_it k.read there output now V' E' r sent_it s₀ opening_is.rows opening_is.sounds v' u

    pub run_refused_known : (v' : V') → r ≡ Ok v' → IfSome first (λ l. Ended l H.Stopped s₀ output now)
    run_refused_known v' u = ran_known H.Stopped s₀ first unread output now (run_refused v' u)

    pub run_refused_failed : (lent : List ℕ) → IfSome first (λ l. Failed l lent s₀ output now)
    run_refused_failed lent =
        IfSome_then first (refused_broken first unread hand refuses_it k.read there output now V' E' r sent_it s₀ opening_is.rows opening_is.sounds) (λ l y. partly y)

    pub run_refused_block : (failure : Failure) → is_input failure ≡ false → (lent : List ℕ) → AfterFailure failure lent s₀
    run_refused_block failure i lent = refused i hand refuses_it opening_is.rows opening_is.sounds
