-- The code of each statement does what the statement does, and the code that carries out items comes to their beginnings.
use Rattle.std.proofs.Common.{◌≡◌, ℕ, ◌+◌, true, Option, List, [], ◌∷◌, ◌++◌, length, drop, refl, sym, ap, ◌∙◌, subst, arith, append_assoc, length-append}
use Rattle.aos_types.specs.World.{World}
use Rattle.aos_typed.specs.Program.{Stat, Assign, Copy, PutText, If, Case, While, Repeat, Loop, Exit, For, Block, Await, Assert, Halt, Change, Perform, Return, New, Make, With, WithRecord, Out, Procedure, Program}
use Rattle.aos_typed.specs.Sort.{Sort}
use Rattle.aos_typed.specs.Meaning.{Here, Item, Do, Rounds, Round, Until, Region, End, Gives, item_of, pos_of}
use Rattle.aos_code.specs.declared.instr.Instr.{Instr}
use Rattle.aos_code.specs.declared.instr.Instr.TheVariants as i
use Rattle.aos_code.specs.Silent.{Keeps}
use Rattle.aos_sim.specs.Code.{Ways, NoRegion, block_ways, stat_code, stats_code}
use Rattle.aos_sim.proofs.Runs.{Run, Tables, runs, run, drop_next, drop_past}
use Rattle.aos_sim.proofs.Does.{HasTypes, HasShapes, along, Knows}
use Rattle.aos_sim.proofs.Carries.{Stands, IsOwn, HasStatement, HasStatements, Carries, bound, none_within, marks_behind, carries_all, Behind, StatementDoes, BeginsAt, AtNext, ItemsDo}
use Rattle.aos_sim.proofs.Stats.{ends, begins_with, assign_does, copy_does, put_text_does, out_does, exit_does, block_does, await_does, assert_does, halt_does, perform_does, return_does}
use Rattle.aos_sim.proofs.News.{new_does}
use Rattle.aos_sim.proofs.Making.{make_does, with_does, with_record_does}
use Rattle.aos_sim.proofs.Loops.{if_does, while_does, repeat_does, loop_does, until_does}
use Rattle.aos_sim.proofs.Changes.{changed_does}
use Rattle.aos_sim.proofs.Rounds.{rounds_does, for_does}
use Rattle.aos_sim.proofs.Choices.{case_does}

module _ (program : Program) (own : Option Procedure) (tables : Tables) (number : ℕ) (here : Here) (code : List Instr) (typed : HasTypes program) (shaped : HasShapes program tables) (is_own : IsOwn program own tables number) where
  statement_does : (s : Stat) (x : Ways) (d : ℕ) (k : Keeps) (after : List Item) → StatementDoes program own tables number here code x d k after s
  statement_does (Assign there t pl e) x d k after = assign_does program own tables number here code x d k after typed shaped there t pl e
  statement_does (Copy there t p q) x d k after = copy_does program own tables number here code x d k after typed shaped there t p q
  statement_does (PutText there strict a b) x d k after = put_text_does program own tables number here code x d k after typed shaped there strict a b
  statement_does (If there arms) x d k after = if_does program own tables number here code typed shaped x d k after there arms
  statement_does (Case there e cases) x d k after = case_does program own tables number here code typed shaped x d k after there e cases
  statement_does (While there e b) x d k after = while_does program own tables number here code typed shaped x d k after there e b
  statement_does (Repeat there b e) x d k after = repeat_does program own tables number here code typed shaped x d k after there b e
  statement_does (Loop there b) x d k after = loop_does program own tables number here code typed shaped x d k after there b
  statement_does (Exit there) x d k after = exit_does program own tables number here code x d k after there
  statement_does (For there w p first last step b) x d k after = for_does program own tables number here code typed shaped x d k after there w p first last step b
  statement_does (Block there exclusive b) x d k after = block_does program own tables number here code x d k after there exclusive b
  statement_does (Await there n e) x d k after = await_does program own tables number here code x d k after there n e
  statement_does (Assert there e n) x d k after = assert_does program own tables number here code x d k after typed shaped there e n
  statement_does (Halt there n) x d k after = halt_does program own tables number here code x d k after there n
  statement_does (Change there c p e) x d k after = changed_does program own tables number here code x d k after typed shaped there c p e
  statement_does (Perform there c more) x d k after = perform_does program own tables number here code x d k after typed shaped there c more
  statement_does (Return there e) x d k after = return_does program own tables number here code x d k after typed shaped is_own there e
  statement_does (New there pl t more) x d k after = new_does program own tables number here code typed shaped x d after k there pl t more
  statement_does (Make there pl t ns) x d k after = make_does program own tables number here code x d k after typed shaped there pl t ns
  statement_does (With there e b) x d k after = with_does program own tables number here code x d k after typed shaped there e b
  statement_does (WithRecord there p b) x d k after = with_record_does program own tables number here code x d k after typed shaped there p b
  statement_does (Out there call) x d k after = out_does program own tables number here code x d k after typed shaped there call

  module _ (w : World Sort) (known : Knows program own here w) where
    -- a statement that is next
    begins : (s : Stat) (is : List Item) (m : Run) (p : ℕ) (x : Ways) (d : ℕ) (k : Keeps) → m ≡ run tables number here code p k [] → HasStatement program own tables number here code s p x d → Carries program own tables number here code is (p + length (stat_code program own s p x d)) x d k → BeginsAt program own tables number here code (pos_of s) (Do s) is w m
    begins s is m p x d k e has c =
        record { at = p; keeps = k; runs = e ∙ begins_with program own tables number here code s p x d k has.stands; does = statement_does s x d k is w p known has c }

    next : (is : List Item) (at : ℕ) (x : Ways) (d : ℕ) (k : Keeps) (m : Run) → m ≡ run tables number here code at k [] → Carries program own tables number here code is at x d k → AtNext program own tables number here code is w m
    next [] at x d k m e c = ends program own tables number here code is_own m (record { at = at; ways = x; level = d; keeps = k; runs = e; carries = c })
    next (Do s ∷ is) at x d k m e c = begins s is m c.0 x d k (e ∙ c.2 k []) c.3 c.4
    next (Rounds there a q last step b ∷ is) at x d k m e c =
        let r = c.3 in
        record {
          at = c.0;
          keeps = k;
          runs = e ∙ c.2 k [] ∙ ap (λ l. runs tables number here code l 0 c.0 k []) r.2.stands.here;
          does = rounds_does program own tables number here code typed shaped there a q last step b x r.0 k is w c.0 known r.2 r.3 r.4;
        }
    next (Round s ∷ is) at x d k m e c =
        begins s is m c.0 c.3.0 d k (e ∙ c.2 k []) c.3.1 (subst (λ n. Carries program own tables number here code is n c.3.0 d k) (ap (λ (y : Ways). y.exit) c.3.2) c.3.3)
    next (Until there b e1 ∷ is) at x d k m e c =
        along program here (Behind program own tables number here code is) w m _ (item_of program here (Until there b e1)) (e ∙ c.2 k []) (until_does program own tables number here code typed shaped x d k is there b e1 w c.0 known c.3 c.4)
    next (Region ss ∷ is) at x d k m e c =
        let p = c.0 in
        let cs = stats_code program own ss (p + 1) (block_ways true x) d in
        let rest = c.3.stands.rest in
        let behind = (i.Leave ∷ []) ++ rest in
        let h0 : drop p code ≡ i.Enter ∷ (cs ++ behind) = c.3.stands.here ∙ ap (λ l. i.Enter ∷ l) (append_assoc cs (i.Leave ∷ []) rest) in
        let h1 : drop (p + 1) code ≡ cs ++ behind = drop_next p code i.Enter (cs ++ behind) h0 in
        let q = p + 1 + length cs in
        let has : HasStatements program own tables number here code ss (p + 1) (block_ways true x) d = record { stands = record { rest = behind; here = h1 }; typed = c.3.typed; home = c.3.home; linked = c.3.linked; holds = c.3.holds } in
        let last : Stands code q (i.Leave ∷ []) = record { rest = rest; here = drop_past cs (p + 1) code behind h1 } in
        let len : p + length (i.Enter ∷ (cs ++ i.Leave ∷ [])) ≡ q + 1 = omega (arith, length-append cs (i.Leave ∷ [])) in
        let c' : Carries program own tables number here code is (q + 1) x d k = subst (λ n. Carries program own tables number here code is n x d k) len c.4 in
        let le = bound program own tables number here code is (q + 1) x d k c' in (
          (λ y. runs tables number here code (cs ++ behind) 0 (p + 1) k []),
          e ∙ c.2 k [] ∙ ap (λ l. runs tables number here code l 0 p k []) h0,
          λ y l none.
              let free : x.within ≡ NoRegion = none_within l x.within (sym (marks_behind program own tables number here code is (q + 1) x d k c' l) ∙ none) in
              record {
                at = p + 1;
                ways = block_ways true x;
                level = d;
                keeps = k;
                runs = ap (λ l. runs tables number here code l 0 (p + 1) k []) (sym h1);
                carries = carries_all program own tables number here code ss (p + 1) (block_ways true x) d k (End ∷ is) has (q, omega (arith, le), (λ k' s. refl), (x, last, refl, free, c'));
              },
        )
    next (End ∷ is) at x d k m e c =
        let p = c.0 in
        let rest = c.3.1.rest in
        let h0 : drop p code ≡ i.Leave ∷ rest = c.3.1.here in
        let h1 : drop (p + 1) code ≡ rest = drop_next p code i.Leave rest h0 in (
          (λ y. runs tables number here code rest 0 (p + 1) k []),
          e ∙ c.2 k [] ∙ ap (λ l. runs tables number here code l 0 p k []) h0,
          λ y. record { at = p + 1; ways = c.3.0; level = d; keeps = k; runs = ap (λ l. runs tables number here code l 0 (p + 1) k []) (sym h1); carries = c.3.4 },
        )
    next (Gives r ∷ is) at x d k m e c = absurd c

pub items_do : (program : Program) → ItemsDo program
items_do program own tables number here code w is m typed shaped is_own known o =
    next program own tables number here code typed shaped is_own w known is o.at o.ways o.level o.keeps m o.runs o.carries
