-- The three demands, the claims of W-202 and W-203, and what holds when bytes reach the RAM from outside, proved.
use Rattle.std.specs.Prelude.{refl, List, [], ℕ, ◌*◌, ◌≤◌, length, get_or, take}
use Rattle.std.proofs.Common.{sym, ap, ◌∙◌, subst}
use Rattle.words.specs.Words.{words_in}
use Rattle.machine.specs.Machine.{Sizes, sizes_ok, State, begun, Lent, every_table, read_map, Call, translate, Answer, at, with_ram, records_of, answers, after_all}
use Rattle.machine.specs.Claims.{Same}
use Rattle.machine.proofs.Laws.Holders.{one_holder, pool_and_resident, same_byte}
use Rattle.machine.proofs.Laws.Records.{listed_pages_lem}
use Rattle.machine.proofs.Laws.Bytes.{read_there}
use Rattle.machine.proofs.Laws.Hidden.{ram_unseen, start_bare}
use Rattle.machine.proofs.Laws.Sizes.{both}
use Rattle.machine.specs.Map.{first_body, map_of, sizes_in}
use Rattle.machine.specs.Fullness.{fullness_of}
use Rattle.machine.proofs.MapTheorems.{described_ram, described_ok, described_sizes, file_contents, write_then_read as Written-Read}
use Rattle.machine.proofs.MapTheorems.{fullness_resident, fullness_cut}
use Rattle.memory.specs.Memory.{Memory, sizes_of, lengths}
use Rattle.promise.specs.Holds.{Holds}
use Rattle.promise.specs.Did.{Did}
use Rattle.laws.specs.Refusals.{Long, refused_still}
use Rattle.laws.specs.Located.{translate_asks, translate_next, translate_resident}
use Rattle.demands.specs.History.{calls}
use Rattle.demands.specs.Demands.{Demand1, Demand1Read, Demand1List, machine_at, Demand2, Demand2Ram, Demand3For}
use Rattle.demands.specs.Maps.{Demand1Map, ReadsExactly, WriteThenRead, ReadThenWrite, WrittenFullness}
use Rattle.demands.proofs.Laws.Run.{begins_holding, sequence_follows}
use Rattle.demands.proofs.Laws.Rooms.{run_rooms, run_bare}
use Rattle.demands.proofs.Laws.Next.{free_next, list_next, read_asks}
use Rattle.demands.proofs.Laws.Byte.{stored_there}
use Rattle.demands.proofs.Laws.Maps.{map_passes, described_begins, map_is, reads, written_again}
use Rattle.demands.proofs.Laws.Filled.{course_follows}
use Rattle.demands.specs.Outside.{made, after_in, OutsideFor}

pub demand_1 : (c : Lent → Call) (k : Memory) (a : Answer) (k' : Memory) → Did c k a k' → Demand1 c k a k'
demand_1 c k a k' d = record { numbers = d.asks; refusals = λ e. d.stays (refused_still a e) }

pub demand_1_read : Demand1Read
demand_1_read i x k r buffer buffer' d = d.kept

pub demand_1_list : Demand1List
demand_1_list i k r slice slice' d = d.kept

pub demand_2 : Demand2
demand_2 m k k' es q = (sequence_follows m k k' es q).answers_are

pub demand_2_ram : Demand2Ram
demand_2_ram z k k' l l' es fs q r same bare =
    let m = with_ram (begun z []) l.ram in
    let H = begins_holding (begun z []) k q.started q.beginning in
    let H' = begins_holding (begun z []) l r.started r.beginning in
    demand_2 (begun z []) k k' es q
    ∙ sym (ram_unseen (with_ram (begun z []) k.ram) H.sound (start_bare z k.ram) l.ram (calls es) (run_rooms _ H q.run)
    (rw same (run_rooms m H' r.run)) (run_bare _ H q.run bare))
    ∙ ap (answers m) same
    ∙ sym (demand_2 (begun z []) l l' fs r)

-- no two resident addresses share a byte
addresses_apart : (m : State) (k : Memory) → Holds m k → (i x j y p : ℕ) (a b : Memory) → Did (translate i x) k (at p) a → Did (translate j y) k (at p) b
    → Same i x j y
addresses_apart m k H i x j y p a b d e =
    let r = translate_resident m k H i x p a d in
    let t = translate_resident m k H j y p b e in
    same_byte m H.sound i x j y p r.here t.here r.is_at t.is_at

pub demand_3 : Demand3For
demand_3 m₀ k k' es q room =
    let m = machine_at m₀ k es in
    let H = (sequence_follows m₀ k k' es q).holds in
    let s = H.sound in
    record {
      translated = λ i x p here. translate_next m k' H i x p (translate_asks m k' H room i x here);
      apart = addresses_apart m k' H;
      held = one_holder m s;
      counted = λ a k'' d. (length m.pool, free_next m k' H room a k'' d, refl, pool_and_resident m s);
      listed = λ most a k'' d. (records_of m, λ i h. list_next m k' H room i (most i) h (d i h).0 (a i) (k'' i) (d i h).1, listed_pages_lem m s);
      one_read = λ i x v b a k'' d.
          let t = stored_there m₀ k k' es q i x v b in
          (d.honest m H).answer_is ∙ (read_there m i x v t.shown).one (lengths k') (read_asks m k' H room i x t.here);
      every_read = λ i x v b y n vs k'' d low high.
          (read_there m i x v (stored_there m₀ k k' es q i x v b).shown).over y n (lengths k') vs (sym (d.honest m H).answer_is) low high;
      in_ram = λ i x v b a k'' d.
          let t = stored_there m₀ k k' es q i x v b in
          let (p, told, byte) = (read_there m i x v t.shown).points (lengths k') (translate_asks m k' H room i x t.here) in
          (p, (d.honest m H).answer_is ∙ told, ap (λ (ram : List ℕ). get_or ram p 0) H.ram_is ∙ byte);
      constant = λ i b a k'' d. d.bounds;
    }

pub outside_writes : OutsideFor
outside_writes s k k' ts q =
    let m = with_ram s k.ram in
    let f = course_follows m k.ram (begins_holding s k q.started q.beginning) q.course in
    let H = f.holds in
    let n = after_in m ts in
    record {
      answers_are = f.answers_are;
      holds = H;
      answers_alike = f.answers_alike;
      state_alike = f.state_alike ∙ ap (with_ram (after_all m (calls (made ts)))) (sym H.ram_is);
      apart = addresses_apart n k' H;
    }

-- ---- W-202

pub demand_1_map : Demand1Map
demand_1_map k r buffer buffer' d = d.kept

pub reads_exactly : ReadsExactly
reads_exactly file bytes k a k' long d = reads file bytes k a k' long d

pub write_then_read : WriteThenRead
write_then_read m k H n buffer buffer' w l a l' long d =
    let file = map_is m (length buffer) (lengths k) (take n buffer') (w.did.honest m H).answer_is in
    let d' = subst (λ (f : List ℕ). Did (read_map f) l a l') file d in
    let is = described_ram m.ram (map_of m) l.ram m (Written-Read m H.sound) in
    let z = described_sizes m.ram (map_of m) m (Written-Read m H.sound) in
    described_begins (map_of m) (with_ram m l.ram) l a l' is
    (map_passes (sizes_of l.head) (map_of m) (lengths l) (described_ok l.ram (map_of m) _ is)
    (subst (λ (y : Sizes). Long every_table y (lengths l)) z long)) d'

pub read_then_write : ReadThenWrite
read_then_write file bytes k k' d r buffer buffer' fits w = written_again file bytes k k' d (length buffer) _ fits w.did

-- ---- W-203

pub written_fullness : WrittenFullness
written_fullness m k H n buffer buffer' w got long i below =
    let file = map_is m (length buffer) (lengths k) (take n buffer') (w.did.honest m H).answer_is in
    let is = Written-Read m H.sound in
    let whole = (both (sizes_ok (sizes_in (words_in (map_of m)))) _ (file_contents (map_of m) (described_ok m.ram (map_of m) m is))).1 in
    let z = described_sizes m.ram (map_of m) m is in
    ap (λ (f : List ℕ). fullness_of (take got f) i) file
    ∙ fullness_cut (map_of m) whole got (subst (λ (y : Sizes). 4 * first_body y.spaces ≤ got) z long) i
    ∙ fullness_resident (map_of m) m.ram m (record { sound = H.sound; ram_is = refl; file_is = refl }) i below
