pub mod PlanSheets
