mod EachPasses
pub mod GivesLaws
mod NumberRows
mod BitRows
mod TruthRows
mod ChosenRows
mod ArrayRows
mod GeneratedRows
mod PieceLaws
mod SymbolLaws
mod KindRows
mod TextRows
mod JoinedRows
mod HexRows
mod Placed
mod Sound
mod IntegerTable
mod OperatorTable
mod ChoiceTable
mod TextTable
mod ArrayTable
mod AggregateTable
pub mod TableLaws
