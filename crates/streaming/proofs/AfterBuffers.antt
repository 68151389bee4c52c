-- A turn of the run: the commands at hand are run, and where none is left more is read. Assumes nothing.
use Rattle.std.proofs.Common.{◌≡◌, ℕ, ◌+◌, ◌-◌, ◌≤◌, ◌<◌, Bool, true, false, List, [], ◌∷◌, ◌++◌, length, take, drop, refl, sym, ap, ◌∙◌, subst, append-nil, arith, take_all, length-drop, drop-drop}
use Rattle.std.specs.Prelude.{Option, Result, Ok, Err, IfOk, OnOk}
use Rattle.std.specs.Io.KnownBytes.{Appends, IsAtEnd}
use Rattle.std.proofs.KnownBytes.{Consumes-nil, Appends-nil}
use Rattle.chunks.specs.Chunks.{lines_text, is_full, is_stopped, last_of, ChunkRun as ChunkFed}
use Rattle.chunks.specs.declared.Chunk.{Chunk}
use Rattle.chunks.specs.declared.Pause.{Pause}
use Rattle.chunks.specs.declared.Pause.TheVariants as P
use Rattle.streaming.proofs.Advanced.{lines_none, behind_none, advanced_join, advanced_broken, over_join}
use Rattle.streaming.specs.Stages.{Stage, Advanced, Over, Broken, midway, at_end, end_of}
use Rattle.streaming.specs.declared.End.{End}
use Rattle.streaming.specs.declared.End.TheVariants as H
use Rattle.input.specs.Buffers.{buffer_size}
use Rattle.input.specs.Filled.{hand, rest, Filled}
use Rattle.input.specs.declared.Buffer.{Buffer}
use Rattle.laws.proofs.ListLaws.{never}
use Rattle.layout.specs.Layout.{store_of}
use Rattle.metadata.specs.Run.{answers}
use Rattle.printing.specs.Sent.{Sent}
use Rattle.reading.proofs.Places.{next_drop, rest_short, stands_more}
use Rattle.reading.specs.Places.{Stands, none, stop_of, is_whole, is_unknown}
use Rattle.reading.specs.Reader.{next_at}
use Rattle.reading.specs.declared.Next.{Next}
use Rattle.reading.specs.declared.Next.TheVariants as N

abbrev stage : List ℕ → List ℕ → ℕ → Option (List ℕ) → Option (List ℕ) → Stage
stage l s n u w = record { unrun = l; store = s; line = n; unread = u; output = w }

-- ---- a chunk was run, and its lines sent

module _ (b : Buffer) (at line : ℕ) (h : List ℕ) (e : h ≡ hand b) (n : length h ≡ b.have) (g : at ≤ b.have) (s s' : List ℕ) (old new : List ℕ) (o : old ≡ []) (c : Chunk) (room : ℕ)
    (k : ChunkFed room (take (length h - at) (drop at h)) s line old c s' new) (unread output output' : Option (List ℕ)) (text : List ℕ) (t : text ≡ new) where
  abbrev before : Stage
  before = stage (rest b at) s line unread output

  here : take (length h - at) (drop at h) ≡ rest b at
  here = take_all (length h - at) (drop at h) (omega (arith, length-drop at h)) ∙ ap (drop at) e

  unrun : drop c.at (rest b at) ≡ rest b (at + c.at)
  unrun = drop-drop c.at at (hand b)

  pub chunk_inside : at + c.at ≤ b.have
  chunk_inside = omega (arith, k.inside, ap length (take_all (length h - at) (drop at h) (omega (arith, length-drop at h))), length-drop at h, n)

  sent_text : text ≡ lines_text line (answers (store_of s) k.commands ++ last_of c.pause (next_at (take (length h - at) (drop at h)) c.at))
  sent_text = t ∙ k.text ∙ ap (λ (x : List ℕ). x ++ lines_text line (answers (store_of s) k.commands ++ last_of c.pause (next_at (take (length h - at) (drop at h)) c.at))) o

  advanced : {V E : Type 0} (r : Result V E) → Sent output output' text r → (all : Bool) → (all ≡ true → OnOk r ⊥ → ⊥) → Advanced before (stage (rest b (at + c.at)) s' c.line unread output') (last_of c.pause (next_at (rest b at) c.at)) all
  advanced {V} {E} r w all whole =
      let z : text ≡ lines_text line (answers (store_of s) k.commands ++ last_of c.pause (next_at (rest b at) c.at)) =
      sent_text ∙ ap (λ (x : List ℕ). lines_text line (answers (store_of s) k.commands ++ last_of c.pause (next_at x c.at))) here in
      record {
        more = [];
        read = Consumes-nil unread;
        commands = k.commands;
        place = c.at;
        stand = stands_more (rest b at) [] (subst (λ (x : List ℕ). Stands x 0 k.commands c.at) here k.stand);
        behind = ap (drop c.at) (append-nil (rest b at)) ∙ unrun;
        ran = k.ran;
        sounds = k.sounds;
        numbered = k.line;
        count = w.count;
        wrote = subst (λ (x : List ℕ). Appends output output' (take w.count x)) z w.wrote;
        written = λ f. subst (λ (x : List ℕ). length x ≤ w.count) z (full r w.all (whole f));
      }
    where
      full : (x : Result V E) → OnOk x (w.count ≡ length text) → (OnOk x ⊥ → ⊥) → length text ≤ w.count
      full (Ok v) a f = omega (arith, a)
      full (Err v) a f = absurd (f tt)

  -- it stopped at a byte that is no command
  stopped_over : (all : Bool) → c.pause ≡ P.Stopped → Advanced before (stage (rest b (at + c.at)) s' c.line unread output') (last_of c.pause (next_at (rest b at) c.at)) all → Over before H.Stopped s' unread output' all
  stopped_over all p d =
      let u : is_unknown (next_at (rest b at) c.at) ≡ true =
      ap (λ (x : List ℕ). is_unknown (next_at x c.at)) (sym here) ∙ sym (k.stops (ap is_full p)) ∙ ap is_stopped p in
      let m : is_whole (next_at (rest b at) c.at) ≡ false = ap (λ (x : List ℕ). is_whole (next_at x c.at)) (sym here) ∙ k.all (ap is_full p) in
      let z : next_at (rest b (at + c.at)) 0 ≡ next_at (rest b at) c.at = ap (λ (x : List ℕ). next_at x 0) (sym unrun) ∙ next_drop (rest b at) c.at m in
      record {
        unrun = rest b (at + c.at);
        line = c.line;
        advanced =
            subst (λ (x : Next). Advanced before (stage (rest b (at + c.at)) s' c.line unread output') (stop_of x) all) (sym z)
            (subst (λ (x : Pause). Advanced before (stage (rest b (at + c.at)) s' c.line unread output') (last_of x (next_at (rest b at) c.at)) all) p d);
        none_whole = ap is_whole z ∙ m;
        ended = λ q. absurd (never _ (ap is_unknown z ∙ u) q);
        how_ended = stopped (next_at (rest b (at + c.at)) 0) (ap is_unknown z ∙ u);
      }
    where
      stopped : (x : Next) → is_unknown x ≡ true → H.Stopped ≡ end_of x
      stopped N.End q = absurd (never false q refl)
      stopped (N.Unknown i) q = refl
      stopped (N.Cut i) q = absurd (never false q refl)
      stopped (N.Whole i j) q = absurd (never false q refl)

  pub run_broken : {V E : Type 0} (r : Result V E) → Sent output output' text r → Broken before s' unread output'
  run_broken r w = go c.pause refl
    where
      d : Advanced before (stage (rest b (at + c.at)) s' c.line unread output') (last_of c.pause (next_at (rest b at) c.at)) false
      d = advanced r w false (λ f. absurd (never false f refl))

      go : (p : Pause) → c.pause ≡ p → Broken before s' unread output'
      go P.Full e = midway (rest b (at + c.at)) c.line (subst (λ (x : Pause). Advanced before (stage (rest b (at + c.at)) s' c.line unread output') (last_of x (next_at (rest b at) c.at)) false) e d)
      go P.Short e = midway (rest b (at + c.at)) c.line (subst (λ (x : Pause). Advanced before (stage (rest b (at + c.at)) s' c.line unread output') (last_of x (next_at (rest b at) c.at)) false) e d)
      go P.Stopped e = at_end H.Stopped (stopped_over false e d)

  module _ {V E : Type 0} (r : Result V E) (w : Sent output output' text r) (v : V) (f : r ≡ Ok v) where
    sent : Advanced before (stage (rest b (at + c.at)) s' c.line unread output') (last_of c.pause (next_at (rest b at) c.at)) true
    sent = advanced r w true (λ p q. subst (λ (x : Result V E). OnOk x ⊥) f q)

    pub run_full : c.pause ≡ P.Full → Advanced before (stage (rest b (at + c.at)) s' c.line unread output') [] true
    run_full p = subst (λ (x : Pause). Advanced before (stage (rest b (at + c.at)) s' c.line unread output') (last_of x (next_at (rest b at) c.at)) true) p sent

    pub run_stopped : c.pause ≡ P.Stopped → Over before H.Stopped s' unread output' true
    run_stopped p = stopped_over true p sent

    -- no whole command is left, and no byte that is none: more is read
    module _ (p : c.pause ≡ P.Short) where
      short : Advanced before (stage (rest b (at + c.at)) s' c.line unread output') [] true
      short = subst (λ (x : Pause). Advanced before (stage (rest b (at + c.at)) s' c.line unread output') (last_of x (next_at (rest b at) c.at)) true) p sent

      none_whole : is_whole (next_at (rest b at) c.at) ≡ false
      none_whole = ap (λ (x : List ℕ). is_whole (next_at x c.at)) (sym here) ∙ k.all (ap is_full p)

      begins : next_at (rest b (at + c.at)) 0 ≡ next_at (rest b at) c.at
      begins = ap (λ (x : List ℕ). next_at x 0) (sym unrun) ∙ next_drop (rest b at) c.at none_whole

      whole_not : is_whole (next_at (rest b (at + c.at)) 0) ≡ false
      whole_not = ap is_whole begins ∙ none_whole

      unknown_not : is_unknown (next_at (rest b (at + c.at)) 0) ≡ false
      unknown_not =
          ap is_unknown begins ∙ ap (λ (x : List ℕ). is_unknown (next_at x c.at)) (sym here) ∙ sym (k.stops (ap is_full p)) ∙ ap is_stopped p

      module _ {E' : Type 0} (b' : Buffer) (after : Option (List ℕ)) (i : Result ℕ E') (j : Filled (rest b (at + c.at)) (hand b') unread after i) where
        -- what was read stands behind what was left
        read : Advanced (stage (rest b (at + c.at)) s' c.line unread output') (stage (hand b') s' c.line after output') [] true
        read =
            record {
              more = j.more;
              read = j.read;
              commands = [];
              place = 0;
              stand = none;
              behind = sym j.bytes;
              ran = refl;
              sounds = k.sounds;
              numbered = sym (behind_none c.line);
              count = 0;
              wrote = Appends-nil output';
              written = λ q. omega (arith, ap length (lines_none c.line));
            }

        pub read_on : Advanced before (stage (rest b' 0) s' c.line after output') [] true
        read_on = advanced_join before (stage (rest b (at + c.at)) s' c.line unread output') (stage (hand b') s' c.line after output') [] true short read

        pub read_broken : Broken before s' after output'
        read_broken = advanced_broken before (hand b') s' c.line after output' read_on

        -- nothing came: the input is at its end
        module _ (m : ℕ) (q : i ≡ Ok m) (z : m ≡ 0) (h' : List ℕ) (x : h' ≡ hand b') where
          nothing : j.more ≡ []
          nothing = empty j.more (omega (arith, z, came))
            where
              came : m ≡ length j.more
              came = subst (λ (y : Result ℕ E'). IfOk y (λ w. w ≡ length j.more)) q j.came

              empty : (l : List ℕ) → length l ≡ 0 → l ≡ []
              empty [] y = refl
              empty (w ∷ l) y = absurd (omega arith)

          same : h' ≡ rest b (at + c.at)
          same = x ∙ j.bytes ∙ ap (λ (y : List ℕ). rest b (at + c.at) ++ y) nothing ∙ append-nil (rest b (at + c.at))

          at_the_end : IsAtEnd after
          at_the_end =
              subst (λ (y : Result ℕ E'). IfOk y (λ w. w ≡ 0 → length (rest b (at + c.at)) < buffer_size → IsAtEnd after)) q j.ended z
              (omega (arith, rest_short (rest b (at + c.at)) whole_not unknown_not))

          pub end_known : is_unknown (next_at h' 0) ≡ false
          end_known = ap (λ (y : List ℕ). is_unknown (next_at y 0)) same ∙ unknown_not

          module _ {V' F : Type 0} (output'' : Option (List ℕ)) (y : Result V' F) (d : Sent output' output'' (lines_text c.line (stop_of (next_at h' 0))) y) where
            -- the last line
            last : (all : Bool) → (all ≡ true → OnOk y ⊥ → ⊥) → Advanced (stage (hand b') s' c.line after output') (stage (hand b') s' c.line after output'') (stop_of (next_at h' 0)) all
            last all whole =
                record {
                  more = [];
                  read = Consumes-nil after;
                  commands = [];
                  place = 0;
                  stand = none;
                  behind = append-nil (hand b');
                  ran = refl;
                  sounds = k.sounds;
                  numbered = sym (behind_none c.line);
                  count = d.count;
                  wrote = d.wrote;
                  written = λ f. every y d.all (whole f);
                }
              where
                every : (r : Result V' F) → OnOk r (d.count ≡ length (lines_text c.line (stop_of (next_at h' 0)))) → (OnOk r ⊥ → ⊥) → length (lines_text c.line (stop_of (next_at h' 0))) ≤ d.count
                every (Ok o) a f = omega (arith, a)
                every (Err o) a f = absurd (f tt)

            over : (all : Bool) → (all ≡ true → OnOk y ⊥ → ⊥) → (how : End) → how ≡ end_of (next_at h' 0) → Over before how s' after output'' all
            over all whole how w =
                over_join before (stage (hand b') s' c.line after output') how s' after output'' all read_on
                (record {
                  unrun = hand b';
                  line = c.line;
                  advanced =
                      subst (λ (l : List ℕ). Advanced (stage (hand b') s' c.line after output') (stage (hand b') s' c.line after output'') (stop_of (next_at l 0)) all) x
                      (last all whole);
                  none_whole = ap (λ (l : List ℕ). is_whole (next_at l 0)) (sym x ∙ same) ∙ whole_not;
                  ended = λ f. at_the_end;
                  how_ended = w ∙ ap (λ (l : List ℕ). end_of (next_at l 0)) x;
                })

            pub end_broken : Broken before s' after output''
            end_broken = at_end (end_of (next_at h' 0)) (over false (λ f. absurd (never false f refl)) (end_of (next_at h' 0)) refl)

            pub end_over : (v' : V') → y ≡ Ok v' → (how : End) → how ≡ end_of (next_at h' 0) → Over before how s' after output'' true
            end_over v' a how w = over true (λ f r. subst (λ (t : Result V' F). OnOk t ⊥) a r) how w
